-- The invariant holds after each kind of entry.
use mathlib.Core.Path.{sym, ap, ◌∙◌}
use lib.ListN.{length}
use Rattle.plain.proofs.Loops.{filling_none, filling_all, filling_letter, filling_pair, filling_within, pair_two, within_one, never_wrong}
use native.Mathlib.Omega.{arith}
use Rattle.plain.proofs.fill_rows.Goals as goal
use Rattle.plain.proofs.fill_rows.Goals.{in-Letter, in-Pair, in-Within, in-Wrong}

pub loop-k-init : goal.loop-k-init
loop-k-init c = rw c.new-trees.ensures (filling_none c.requires)

pub pop-y-requires : goal.pop-y-requires
pop-y-requires c = omega (arith, pair_two c.loop-k.invariant (omega arith) (sym c.entry_at.ensures ∙ c.in-Pair.is))

pub pop-x-requires : goal.pop-x-requires
pop-x-requires c = omega (arith, pair_two c.loop-k.invariant (omega arith) (sym c.entry_at.ensures ∙ c.in-Pair.is), ap length c.pop-y.ensures)

pub pop-x-requires-in-Within : goal.pop-x-requires-in-Within
pop-x-requires-in-Within c = omega (arith, within_one c.loop-k.invariant (omega arith) (sym c.entry_at.ensures ∙ c.in-Within.is))

pub loop-k-preserved : goal.loop-k-preserved
loop-k-preserved c =
    let v = c.loop-k.invariant in
    elim c.match-entry_at.branch [
      | in-Letter w ↦
          rw (w.rows-is, w.trees-is, w.push.ensures)
          (filling_letter v (omega arith) w.fill_letter.auto.rows (sym c.entry_at.ensures ∙ w.in-Letter.is) w.fill_letter.ensures)
      | in-Pair w ↦
          rw (w.rows-is, w.trees-is, w.push-in-Pair.ensures)
          (filling_pair v (omega arith) w.fill_pair.auto.rows (sym c.entry_at.ensures ∙ w.in-Pair.is) w.pop-y.ensures w.pop-x.ensures w.fill_pair.ensures)
      | in-Within w ↦
          rw (w.rows-is, w.trees-is, w.push-in-Within.ensures)
          (filling_within v (omega arith) w.fill_within.auto.rows (sym c.entry_at.ensures ∙ w.in-Within.is) w.pop-x-in-Within.ensures w.fill_within.ensures)
      | in-Wrong w ↦ absurd (never_wrong v (omega arith) (sym c.entry_at.ensures ∙ w.in-Wrong.is))
    ]

pub returns : goal.returns
returns c = filling_all c.loop-k.invariant (omega arith)
