use mathlib.Core.Path.{◌≡◌}
use Rattle.std.specs.Prelude.{None}
use Rattle.watch.specs.Watch.{InputTaken}
use Rattle.watch.proofs.take_all.Given as goal

abbrev pub invariant-reads : goal.invariant-reads
invariant-reads l = InputTaken l.initial.arrays.part l.arrays.part l.initial.arrays.state l.arrays.state l.p × (l.p.fault ≡ None)
