use mathlib.Core.Path.{refl, sym, ap, ◌∙◌}
use native.Mathlib.Omega.{arith}
use Rattle.rules.proofs.Lists.{drop_part}
use Rattle.watcher.specs.inner.Walk.{extent}
use Rattle.set.proofs.Judges.{judging_start, judging_late, judging_broken, judging_more}
use Rattle.set.proofs.judge.Goals as goal

pub loop-i-init : goal.loop-i-init
loop-i-init c = judging_start _ _ _

pub returns-in_default : goal.returns-in_default
returns-in_default c =
    judging_broken c.loop-i.invariant c.loop-i-test.true
    (ap extent (sym (drop_part c.args.states.now c.loop-i.at)) ∙ sym c.extent.ensures ∙ c.in_default.is)

pub loop-i-preserved : goal.loop-i-preserved
loop-i-preserved c =
    let s = c.args.states.now in
    judging_more c.loop-i.invariant c.loop-i-test.true c.requires
    (ap extent (sym (drop_part s c.loop-i.at)) ∙ sym c.extent.ensures ∙ c.in-Some.is)
    (rw (c.or-late.ensures, c.then_some.ensures, c.next_tick.ensures, drop_part s c.loop-i.at) refl)

pub returns-in-Some-late : goal.returns-in-Some-late
returns-in-Some-late c = judging_late c.loop-i.invariant (omega arith) c.in-Some-late.is
