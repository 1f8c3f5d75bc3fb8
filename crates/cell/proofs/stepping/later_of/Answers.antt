-- `cell::later_of` meets its contract: the test is that of `becomes`. Assumes nothing.
use Rattle.cell.specs.Pairs.{span_of}
use Rattle.cell.proofs.Steps.{becomes_answer, becomes_left}
use Rattle.cell.proofs.stepping.later_of.Goals as goal

pub returns-then-p-answer : goal.returns-then-p-answer
returns-then-p-answer c = let a = c.args in becomes_answer (span_of a.p) a.answer a.end c.if-p-answer.true

pub returns : goal.returns
returns c = let a = c.args in becomes_left (span_of a.p) a.answer a.end c.if-p-answer.false
