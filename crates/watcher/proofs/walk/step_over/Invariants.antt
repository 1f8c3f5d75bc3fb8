-- `watcher::walk::step_over` meets its contract: the words, the place of the next cell and the stack lead to the end of the walk over the words
-- as they were. Assumes nothing.
use Rattle.watcher.proofs.walk.Stepping.{Stepping}
use Rattle.watcher.proofs.walk.step_over.Given as goal

abbrev pub invariant-loop-i : goal.invariant-loop-i
invariant-loop-i l = Stepping l.stack.deep l.stack.many l.t l.events l.initial.state l.state l.stack.values l.at l.i
