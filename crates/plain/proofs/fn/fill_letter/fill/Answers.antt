-- A row of a letter, in `plain::fill_letter`: past the record no event occurs. Assumes nothing.
use Rattle.plain.proofs.Sets.{letter_out}
use Rattle.plain.proofs.fn.fill_letter.fill.Goals as goal

pub returns-else-e-events : goal.returns-else-e-events
returns-else-e-events c = letter_out c.captures.events.now c.captures.kind c.args.e c.if-e-events.false
