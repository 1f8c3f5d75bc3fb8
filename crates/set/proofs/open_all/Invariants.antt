-- `set::open_all` meets its contract: the invariant is `Filling`. Assumes nothing.
use Rattle.set.proofs.Opens.{Filling}
use Rattle.set.proofs.open_all.Given as goal

abbrev pub invariant-loop-i : goal.invariant-loop-i
invariant-loop-i l = Filling l.file l.initial.states l.count l.states l.from l.i
