-- `watch::take_some` meets its contract: the output has room for a line, so some of the input is used. Assumes nothing.
use Rattle.std.proofs.Common.{rules}
use Rattle.watching.proofs.Chunkings.{chunk_some}
use Rattle.watch.proofs.take_some.Goals as goal

pub returns-in-Ok-clause-some : goal.returns-in-Ok-clause-some
returns-in-Ok-clause-some c = λ h. chunk_some c.in-Ok.ensures.1 h (search rules)
