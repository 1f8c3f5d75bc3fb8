use mathlib.Core.Path.{◌≡◌, sym, ◌∙◌}
use Prim.Native.Nat.{◌+◌, ◌*◌}
use native.Mathlib.Omega.{arith}
use Rattle.std.proofs.lemmas.List.{take_rest}
use Rattle.cell.proofs.FormLaws.{kept_fits_end, kept_fits_empty, kept_fits_low, kept_fits_pair}
use Rattle.cell.proofs.form.kept_fits.Goals as goal

pub returns-then-start-eq0 : goal.returns-then-start-eq0
returns-then-start-eq0 c =
    (rw (take_rest c.args.cell.now (2 * c.loop-i.i)) at c.all_zero.ensures)
    ∙ sym (kept_fits_empty _ c.loop-i.last c.args.cell.now (2 * c.loop-i.i) (omega arith) c.if-start-eq0.true)
    ∙ c.loop-i.invariant

pub returns-then-start-last : goal.returns-then-start-last
returns-then-start-last c =
    sym (kept_fits_low _ c.loop-i.last c.args.cell.now (2 * c.loop-i.i) (omega arith) c.if-start-eq0.false c.if-start-last.true)
    ∙ c.loop-i.invariant

pub returns-then-not-pair_fits : goal.returns-then-not-pair_fits
returns-then-not-pair_fits c =
    let h = c.args in
    let e = kept_fits_pair h.next c.loop-i.last h.cell.now (2 * c.loop-i.i) (omega arith) c.if-start-eq0.false c.if-start-last.false in
    sym (rw (sym c.pair_fits.ensures ∙ c.if-not-pair_fits.true) at e) ∙ c.loop-i.invariant

pub loop-i-preserved : goal.loop-i-preserved
loop-i-preserved c =
    let h = c.args in
    let e = kept_fits_pair h.next c.loop-i.last h.cell.now (2 * c.loop-i.i) (omega arith) c.if-start-eq0.false c.if-start-last.false in
    let next : 2 * c.loop-i.i + 2 ≡ 2 * (c.loop-i.i + 1) = omega arith in
    rw (sym next) (sym (rw (sym c.pair_fits.ensures ∙ c.if-not-pair_fits.false) at e) ∙ c.loop-i.invariant)

pub returns : goal.returns
returns c =
    sym (kept_fits_end _ c.loop-i.last c.args.cell.now (2 * c.loop-i.i) (omega arith)) ∙ c.loop-i.invariant
