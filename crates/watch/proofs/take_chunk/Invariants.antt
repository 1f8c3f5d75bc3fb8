-- `watch::take_chunk` meets its contract: some of the chunk is taken each time, as long as nothing failed. Assumes nothing.
use Prim.Native.Nat.{◌-◌}
use lib.ListN.{length}
use Rattle.watch.proofs.Givens.{Along}
use Rattle.watch.proofs.take_chunk.Given as goal

abbrev pub invariant-loop-at : goal.invariant-loop-at
invariant-loop-at l =
    Along l.initial.p l.chunk l.initial.arrays.part l.arrays.part l.initial.arrays.state l.arrays.state l.at l.p

abbrev pub decreases-loop-at : goal.decreases-loop-at
decreases-loop-at l = length l.chunk - l.at
