-- `line::reader::read_number` meets its contract. The invariant: the digits so far make the number, which is not 0. Assumes nothing.
use Rattle.line.proofs.Readings.{DigitsRead}
use Rattle.line.proofs.reader.read_number.Given as goal

abbrev pub invariant-loop-end : goal.invariant-loop-end
invariant-loop-end l = DigitsRead l.line l.end l.value
