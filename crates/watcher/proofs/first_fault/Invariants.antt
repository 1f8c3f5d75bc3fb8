-- `watcher::first_fault` meets its contract: the ticks not yet seen have the first fault of all. Assumes nothing.
use mathlib.Core.Path.{◌≡◌}
use lib.ListN.{drop}
use Rattle.watcher.specs.Feed.{first_fault}
use Rattle.watcher.proofs.first_fault.Given as goal

abbrev pub invariant-loop-i : goal.invariant-loop-i
invariant-loop-i l = first_fault l.i l.allowed (drop l.i l.ticks) ≡ first_fault 0 l.next l.ticks
