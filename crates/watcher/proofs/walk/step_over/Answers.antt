-- The invariant holds after each kind of entry, and the last answer is the tick's.
use mathlib.Core.Path.{sym, ◌∙◌}
use native.Mathlib.Omega.{arith}
use Rattle.watcher.proofs.walk.Stepping.{ready_long, stepping_start, stepping_long, stepping_one_left, stepping_end, stepping_wrong}
use Rattle.watcher.proofs.walk.Stepping.{stepping_room, stepping_letter, stepping_one, stepping_two, stepping_within, stepping_ready, stepping_pair}
use Rattle.watcher.proofs.walk.step_over.Goals as goal
use Rattle.watcher.proofs.walk.step_over.Goals.{in-Letter, in-Pair, in-Within, in-Wrong}

pub bounds-state-0 : goal.bounds-state-0
bounds-state-0 c = omega (arith, ready_long c.requires.ready)

pub loop-i-init : goal.loop-i-init
loop-i-init c =
    rw c.new-stack.ensures (stepping_start _ _ c.args.t c.args.events c.args.state.now c.requires.ready c.requires.fits.deep c.requires.fits.many)

pub entry_in-requires : goal.entry_in-requires
entry_in-requires c = omega (arith, stepping_long c.loop-i.invariant)

pub push-requires : goal.push-requires
push-requires c = stepping_room c.loop-i.invariant c.loop-i-test.true _ (sym c.entry_in.ensures ∙ c.in-Letter.is)

pub restrict-requires : goal.restrict-requires
restrict-requires c = stepping_one c.loop-i.invariant c.loop-i-test.true _ (sym c.entry_in.ensures ∙ c.in-Within.is)

pub merge-at-requires-clause-operands : goal.merge-at-requires-clause-operands
merge-at-requires-clause-operands c = stepping_two c.loop-i.invariant c.loop-i-test.true _ (sym c.entry_in.ensures ∙ c.in-Pair.is)

pub merge-at-requires-clause-fits : goal.merge-at-requires-clause-fits
merge-at-requires-clause-fits c =
    stepping_ready c.loop-i.invariant c.loop-i-test.true _ (sym c.entry_in.ensures ∙ c.in-Pair.is) c.requires.ready.range

pub loop-i-preserved : goal.loop-i-preserved
loop-i-preserved c =
    elim c.match-entry_in.branch [
      | in-Letter w ↦
          rw (w.state-is, w.stack-is, w.push.ensures, w.letter_answer.ensures, w.at-is)
          (stepping_letter c.loop-i.invariant c.loop-i-test.true _ (sym c.entry_in.ensures ∙ w.in-Letter.is))
      | in-Within w ↦
          rw (w.state-is, w.stack-is, w.restrict.ensures, w.at-is)
          (stepping_within c.loop-i.invariant c.loop-i-test.true _ (sym c.entry_in.ensures ∙ w.in-Within.is))
      | in-Pair w ↦
          rw (w.state-is, w.stack-is, w.merge-at.ensures.kept, w.at-is)
          (stepping_pair c.loop-i.invariant c.loop-i-test.true _ (sym c.entry_in.ensures ∙ w.in-Pair.is) w.merge-at.ensures.merged)
      | in-Wrong w ↦ absurd (stepping_wrong c.loop-i.invariant c.loop-i-test.true (sym c.entry_in.ensures ∙ w.in-Wrong.is))
    ]

pub answer-requires : goal.answer-requires
answer-requires c = stepping_one_left c.loop-i.invariant (omega arith)

pub returns : goal.returns
returns c = rw c.answer.ensures (stepping_end c.loop-i.invariant (omega arith))
