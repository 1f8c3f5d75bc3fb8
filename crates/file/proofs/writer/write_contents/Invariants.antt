-- `file::writer::write_contents` meets its contract: the entries written and those left make the contents. Assumes nothing.
use Rattle.file.proofs.Writes.{Filled}
use Rattle.file.proofs.writer.write_contents.Given as goal

abbrev pub invariant-loop-i : goal.invariant-loop-i
invariant-loop-i l = Filled l.names l.counts l.part l.i l.offset
