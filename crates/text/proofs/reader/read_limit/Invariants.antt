-- `text::reader::read_limit` meets its contract. The invariant: the digits so far make the number, which is not 0. Assumes nothing.
use Rattle.text.proofs.Numbers.{DigitsRead}
use Rattle.text.proofs.reader.read_limit.Given as goal

abbrev pub invariant-loop-end : goal.invariant-loop-end
invariant-loop-end l = DigitsRead l.text l.at l.end l.value
