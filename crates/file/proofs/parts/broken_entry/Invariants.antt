-- `file::parts::broken_entry` meets its contract: the names and numbers left decide, after the last name. Assumes nothing.
use Rattle.file.proofs.Turns.{Kept}
use Rattle.file.proofs.parts.broken_entry.Given as goal

abbrev pub invariant-loop-i : goal.invariant-loop-i
invariant-loop-i l = Kept l.names l.counts l.i l.before
