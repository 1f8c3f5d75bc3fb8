-- `cell::gather_pairs` meets its contract. The loop's invariant: the pairs kept so far are those gathered for the starts from i on.
-- Assumes nothing.
use mathlib.Core.Path.{◌≡◌}
use Prim.Native.Nat.{◌≤◌}
use lib.ListN.{length, drop}
use Rattle.detector.specs.Choice.{gather}
use Rattle.cell.specs.Pairs.{spans_in}
use Rattle.cell.proofs.kept.gather_pairs.Given as goal

abbrev pub invariant-loop-i : goal.invariant-loop-i
invariant-loop-i l =
    (l.i ≤ length l.starts) × (l.kept ≡ gather (spans_in l.pairs) (drop l.i l.starts))
