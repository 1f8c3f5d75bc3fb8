-- `watcher::walk::steps` meets its contract: the invariant is `Feeds` with arrays of the right size. Assumes nothing.
use mathlib.Core.Path.{◌≡◌}
use lib.ListN.{length}
use Rattle.watcher.proofs.Feeds.{Feeds}
use Rattle.watcher.proofs.walk.steps.Given as goal

abbrev pub invariant-loop-i : goal.invariant-loop-i
invariant-loop-i l =
    Feeds l.initial.state l.ticks l.events l.initial.answers l.state l.answers l.i × (length l.stack ≡ 32) × (length l.base ≡ 33) × (length l.starts ≡ 62)
