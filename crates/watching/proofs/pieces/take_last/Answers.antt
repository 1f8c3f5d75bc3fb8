-- `watching::pieces::take_last` meets its contract: there is a last line if bytes are held, or if there was no line. Assumes nothing.
use mathlib.Core.Path.{◌≡◌}
use Rattle.watching.specs.declared.Phase.TheVariants.{Fresh}
use Rattle.watching.proofs.Takings.{part_first, not_fresh}
use Rattle.watching.proofs.Chunkings.{last_none, last_taken}
use Rattle.watching.proofs.pieces.take_last.Goals as goal
use Rattle.watching.proofs.pieces.take_last.Goals.{else-kept-eq0-via-then-kept-eq0+else-ne, else-kept-eq0-via-else-kept-eq0}
use Rattle.std.proofs.Common.{rules}

pub returns-then-ne : goal.returns-then-ne
returns-then-ne c =
    let other : c.phase.result ≡ Fresh → ⊥ = search rules in
    last_none (rw c.min.ensures at c.min-kept.ensures) c.if-kept-eq0.true (not_fresh _ _ c.phase.ensures other)

pub returns : goal.returns
returns c =
    last_taken (rw c.min.ensures at c.min-kept.ensures)
    (λ e. elim c.else-kept-eq0.branch [
      | else-kept-eq0-via-then-kept-eq0+else-ne w ↦ let same : w.phase.result ≡ Fresh = search rules in rw same at w.phase.ensures
      | else-kept-eq0-via-else-kept-eq0 w ↦ absurd (w.if-kept-eq0.false e)
    ])
    (rw (part_first c.min-kept.result c.args.part.now) at c.take_line.ensures)
