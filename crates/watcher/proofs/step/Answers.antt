-- `watcher::step` meets its contract: either arrays will do. Assumes nothing.
use Rattle.watcher.proofs.Calls.{steps_ready, steps_ticked}
use Rattle.watcher.proofs.step.Goals as goal

pub step_with-requires-clause-ready : goal.step_with-requires-clause-ready
step_with-requires-clause-ready c = steps_ready c.requires

pub returns-then-state-lt-SMALL : goal.returns-then-state-lt-SMALL
returns-then-state-lt-SMALL c = steps_ticked c.requires c.step_with.ensures

pub step_with-requires-else-state-lt-SMALL-clause-ready : goal.step_with-requires-else-state-lt-SMALL-clause-ready
step_with-requires-else-state-lt-SMALL-clause-ready c = steps_ready c.requires

pub returns-else-state-lt-SMALL : goal.returns-else-state-lt-SMALL
returns-else-state-lt-SMALL c = steps_ticked c.requires c.step_with-else-state-lt-SMALL.ensures
