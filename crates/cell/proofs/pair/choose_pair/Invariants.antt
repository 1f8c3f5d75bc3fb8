-- `cell::choose_pair` meets its contract. The loop's invariant: what is chosen so far is the choice of the pairs from i on.
-- Assumes nothing.
use mathlib.Core.Path.{◌≡◌}
use Prim.Native.Nat.{◌*◌, ◌-◌, ◌/◌, ◌≤◌}
use lib.ListN.{length}
use Rattle.detector.specs.Choice.{choose}
use Rattle.cell.specs.Pairs.{span_of, spans_from}
use Rattle.cell.proofs.pair.choose_pair.Given as goal

abbrev pub invariant-loop-i : goal.invariant-loop-i
invariant-loop-i l =
    let n = length l.pairs / 2 in
    (l.i ≤ n) × (span_of l.chosen ≡ choose (spans_from l.pairs (2 * l.i) (n - l.i)) l.start)
