-- `file::contents::broken_content` meets its contract: the entries left decide, after the last name and at the offset reached. Assumes nothing.
use Rattle.file.proofs.Turns.{KeptContents}
use Rattle.file.proofs.contents.broken_content.Given as goal

abbrev pub invariant-loop-i : goal.invariant-loop-i
invariant-loop-i l = KeptContents l.count l.rest l.i l.before l.offset
