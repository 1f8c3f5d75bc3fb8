-- `cell::pairs_in` meets its contract. The loop's invariant: the pairs counted, and the kept ones from there on, are all.
-- Assumes nothing.
use Prim.Native.Nat.{◌*◌, ◌≤◌}
use lib.ListN.{length}
use Rattle.cell.proofs.Choosing.{Counted}
use Rattle.cell.proofs.pair.pairs_in.Given as goal

abbrev pub invariant-loop-pairs : goal.invariant-loop-pairs
invariant-loop-pairs l = (2 * l.pairs ≤ length l.cell) × Counted l.cell l.pairs
