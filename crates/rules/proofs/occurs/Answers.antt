-- A shift and a mask test one bit, and a word of 32 bits has none beyond.
use Rattle.rules.proofs.Bits.{tested, tested_high}
use Rattle.rules.proofs.occurs.Goals as goal

pub returns-then-kind-lt-LETTERS : goal.returns-then-kind-lt-LETTERS
returns-then-kind-lt-LETTERS c = tested c.args.events c.args.kind

pub returns-else-kind-lt-LETTERS : goal.returns-else-kind-lt-LETTERS
returns-else-kind-lt-LETTERS c = tested_high c.args.events 32 c.args.kind c.ranges.events.fits c.if-kind-lt-LETTERS.false
