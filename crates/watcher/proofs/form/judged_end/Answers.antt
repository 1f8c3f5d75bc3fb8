-- The invariant holds after each kind of entry.
use mathlib.Core.Path.{sym, ◌∙◌}
use native.Mathlib.Omega.{arith}
use Rattle.watcher.proofs.form.Judging.{judging_letter, judging_within, judging_merge}
use Rattle.watcher.proofs.form.judged_end.Goals as goal
use Rattle.watcher.proofs.form.judged_end.Goals.{in-Letter, in-Pair+in_ok-at-in-Pair, in-Within}

pub loop-i-preserved : goal.loop-i-preserved
loop-i-preserved c =
    elim c.match-entry_in.branch [
      | in-Letter w ↦
          rw (w.possible-is, w.push.ensures, w.at-is)
          (judging_letter c.loop-i.invariant (omega (arith, c.requires.count)) _ (sym c.entry_in.ensures ∙ w.in-Letter.is))
      | in-Pair+in_ok-at-in-Pair w ↦
          rw (w.possible-is, w.merge.ensures.merged, w.at-is)
          (judging_merge c.loop-i.invariant (omega (arith, c.requires.count)) _ (sym c.entry_in.ensures ∙ w.in-Pair.is) (omega (arith, w.len.ensures)) _
          (rw (← w.merge.ensures.right) w.in_ok-at-in-Pair.ensures))
      | in-Within w ↦
          rw (w.possible-is, w.at-is)
          (judging_within c.loop-i.invariant (omega (arith, c.requires.count)) _ (sym c.entry_in.ensures ∙ w.in-Within.is) (omega arith))
    ]
