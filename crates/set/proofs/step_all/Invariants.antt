-- `set::step_all` meets its contract: the invariant is `Stepping`. Assumes nothing.
use Rattle.set.proofs.Steps.{Stepping}
use Rattle.set.proofs.step_all.Given as goal

abbrev pub invariant-loop-k : goal.invariant-loop-k
invariant-loop-k l = Stepping l.n l.initial.states l.t l.events l.ends l.initial.answers l.states l.answers l.k
