-- The invariant holds after each kind of entry.
use mathlib.Core.Path.{sym, ◌∙◌}
use Prim.Native.Nat.{◌+◌}
use native.Mathlib.Omega.{arith}
use Rattle.watcher.proofs.Piles.{piled_wrong}
use Rattle.watcher.proofs.Rooming.{Rooming, rooming_letter, rooming_within, rooming_merge}
use Rattle.watcher.proofs.cells_needed.Goals as goal
use Rattle.watcher.proofs.cells_needed.Goals.{in-Letter, in-Pair, in-Within, in-Wrong, After-size-words}

-- an operator's words are added
added : (c : After-size-words) → Rooming c.args.body.now (c.loop-i.i + 1) (c.loop-i.words + c.size-words.result) c.merge.new.possible
added c =
    rw (c.size-words.ensures, c.merge.ensures.merged, c.merge.ensures.right)
    (rooming_merge c.loop-i.invariant c.loop-i-test.true _ (sym c.entry_at.ensures ∙ c.in-Pair.is))

pub overflow_add-words : goal.overflow_add-words
overflow_add-words c =
    let x = added (goal.at.overflow_add-words c).After-size-words in
    omega (arith, x.small, x.most)

pub loop-i-preserved : goal.loop-i-preserved
loop-i-preserved c =
    elim c.match-entry_at.branch [
      | in-Letter w ↦
          rw (w.possible-is, w.push.ensures, w.words-is)
          (rooming_letter c.loop-i.invariant c.loop-i-test.true _ (sym c.entry_at.ensures ∙ w.in-Letter.is))
      | in-Pair w ↦
          rw (w.possible-is, w.merge.ensures.merged, w.words-is, w.size-words.ensures, w.merge.ensures.right)
          (rooming_merge c.loop-i.invariant c.loop-i-test.true _ (sym c.entry_at.ensures ∙ w.in-Pair.is))
      | in-Within w ↦
          rw (w.possible-is, w.words-is)
          (rooming_within c.loop-i.invariant c.loop-i-test.true _ (sym c.entry_at.ensures ∙ w.in-Within.is))
      | in-Wrong w ↦ absurd (piled_wrong c.loop-i.invariant.piled c.loop-i-test.true (sym c.entry_at.ensures ∙ w.in-Wrong.is))
    ]
