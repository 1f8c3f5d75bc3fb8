-- `plain::letter_row` meets its contract: one bit, at the tick itself. Assumes nothing.
use Rattle.rules.proofs.Bits.{never}
use Rattle.plain.proofs.Sets.{letter_in, empty}
use Rattle.plain.proofs.letter_row.Goals as goal

pub returns-then-occurs : goal.returns-then-occurs
returns-then-occurs c =
    let a = c.args in
    letter_in a.events a.kind a.e c.requires (c.occurs.ensures.0 c.if-occurs.true)

pub returns-else-occurs : goal.returns-else-occurs
returns-else-occurs c = empty _ (λ s p. never (c.occurs.ensures.1 p.1) c.if-occurs.false)
