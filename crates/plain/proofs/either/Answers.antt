-- `plain::either` meets its contract: `|` sets the bits of both. Assumes nothing.
use Rattle.plain.proofs.Sets.{or}
use Rattle.plain.proofs.either.Goals as goal

pub returns : goal.returns
returns c = or c.args.a c.args.b
