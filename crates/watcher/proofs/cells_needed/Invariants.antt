-- `watcher::cells_needed` meets its contract: the invariant is `Rooming`. Assumes nothing.
use Rattle.watcher.proofs.Rooming.{Rooming}
use Rattle.watcher.proofs.cells_needed.Given as goal

abbrev pub invariant-loop-i : goal.invariant-loop-i
invariant-loop-i l = Rooming l.body l.i l.words l.possible
