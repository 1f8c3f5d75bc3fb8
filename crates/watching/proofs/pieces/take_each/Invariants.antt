-- `watching::pieces::take_each` meets its contract. The invariant: the lines so far go; the measure is the bytes left. Assumes nothing.
use Prim.Native.Nat.{◌-◌}
use mathlib.Core.Path.{◌≡◌}
use mathlib.Core.List.{[]}
use lib.ListN.{length}
use Rattle.watching.specs.inner.Progress.{Progress}
use Rattle.watching.proofs.pieces.take_each.Given as goal

abbrev pub invariant-loop-out : goal.invariant-loop-out
invariant-loop-out l =
    Progress l.initial.p.run [] l.initial.p.used l.initial.p.written l.input l.initial.state l.state l.initial.out l.out l.p × (length l.state ≡ length l.initial.state)

abbrev pub decreases-loop-out : goal.decreases-loop-out
decreases-loop-out l = length l.input - l.p.used
