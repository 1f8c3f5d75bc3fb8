-- `line::reader::read_letters` meets its contract. The invariant: the letters so far make the word, of types below the next. Assumes nothing.
use Rattle.line.proofs.Readings.{LettersRead}
use Rattle.line.proofs.reader.read_letters.Given as goal

abbrev pub invariant-loop-byte : goal.invariant-loop-byte
invariant-loop-byte l = LettersRead l.letters l.events l.next l.byte-index
