-- `file::contents::copy_counts` meets its contract: the numbers copied, those still in the contents, and what lies beyond. Assumes nothing.
use Rattle.file.proofs.Turns.{Copied}
use Rattle.file.proofs.contents.copy_counts.Given as goal

abbrev pub invariant-loop-i : goal.invariant-loop-i
invariant-loop-i l = Copied l.count l.rest l.initial.counts l.counts l.i
