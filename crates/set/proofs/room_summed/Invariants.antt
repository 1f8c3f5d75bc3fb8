-- `set::room_summed` meets its contract: the invariant is `Summing`. Assumes nothing.
use Rattle.set.proofs.Opens.{Summing}
use Rattle.set.proofs.room_summed.Given as goal

abbrev pub invariant-loop-i : goal.invariant-loop-i
invariant-loop-i l = Summing l.file l.count l.words l.i
