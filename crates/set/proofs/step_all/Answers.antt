use Rattle.set.proofs.Steps.{stepping_within, stepping_ready, stepping_more}
use Rattle.set.proofs.step_all.Goals as goal

pub slice_bounds-step-end : goal.slice_bounds-step-end
slice_bounds-step-end c =
    let r = c.requires in
    stepping_within r c.loop-k.invariant c.loop-k-test.true

pub step-requires : goal.step-requires
step-requires c =
    let r = c.requires in
    stepping_ready r c.loop-k.invariant c.loop-k-test.true

pub loop-k-preserved : goal.loop-k-preserved
loop-k-preserved c =
    let r = c.requires in
    stepping_more r c.loop-k.invariant c.loop-k-test.true c.step.new.state c.step.result c.step.ensures c.step.auto.state
