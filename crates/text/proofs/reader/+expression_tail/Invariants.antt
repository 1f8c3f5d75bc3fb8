-- `text::reader::expression` and `text::reader::tail`, which call each other, meet their contracts. Each one's measure is the number of
-- bytes left to read. Assumes nothing.
use Rattle.std.proofs.Common.{◌-◌, length}
use Rattle.text.proofs.reader.+expression_tail.Given as goal

abbrev pub decreases-expression : goal.decreases-expression
decreases-expression l = length l.text.now - l.at

abbrev pub decreases-tail : goal.decreases-tail
decreases-tail l = length l.text.now - l.at
