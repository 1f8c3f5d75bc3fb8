-- Each tick may be stepped, and its answer is written.
use mathlib.Core.Path.{◌∙◌}
use native.Mathlib.Omega.{arith}
use Rattle.watcher.proofs.Feeds.{feeds_end, feeds_ready, feeds_more}
use Rattle.watcher.proofs.walk.Stepping.{few_entries}
use Rattle.watcher.proofs.walk.steps.Goals as goal

pub step_over-requires-clause-ready : goal.step_over-requires-clause-ready
step_over-requires-clause-ready c = feeds_ready c.requires c.loop-i.invariant.0 c.loop-i-test.true

pub step_over-requires-clause-fits : goal.step_over-requires-clause-fits
step_over-requires-clause-fits c =
    let few = few_entries (feeds_ready c.requires c.loop-i.invariant.0 c.loop-i-test.true) in
    record { deep = omega arith; based = omega arith; many = omega arith; most = omega arith }

pub loop-i-preserved : goal.loop-i-preserved
loop-i-preserved c = (
  feeds_more c.requires c.loop-i.invariant.0 c.loop-i-test.true c.step_over.new.state c.step_over.result c.step_over.auto.state
      c.step_over.ensures.answer c.step_over.ensures.words,
  c.step_over.auto.answers ∙ c.loop-i.invariant.1,
  c.step_over.auto.base ∙ c.loop-i.invariant.2,
  c.step_over.auto.starts ∙ c.loop-i.invariant.3,
)

pub returns : goal.returns
returns c = feeds_end c.requires c.loop-i.invariant.0 (omega arith)
