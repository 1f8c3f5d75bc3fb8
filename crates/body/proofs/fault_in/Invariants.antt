-- `body::fault_in` meets its contract. The loop's invariant: there are no more trees than entries passed, and the entries left decide.
-- Assumes nothing.
use Prim.Native.Nat.{◌-◌, ◌≤◌}
use mathlib.Core.Path.{◌≡◌}
use Rattle.rules.specs.Limits.{argument_bytes}
use Rattle.body.specs.Entry.{entry_at, entries_by, entries}
use Rattle.body.specs.Check.{scan}
use Rattle.body.proofs.fault_in.Given as goal

abbrev pub invariant-loop-e : goal.invariant-loop-e
invariant-loop-e l =
    (l.trees ≤ l.e) × (scan (entries_by (entry_at argument_bytes l.body) l.e (l.n - l.e)) l.e l.trees ≡ scan (entries argument_bytes l.body) 0 0)
