-- `watching::batch::read_lines` meets its contract. The invariant is `Gathering`. Assumes nothing.
use Rattle.watching.proofs.Gatherings.{Gathering}
use Rattle.watching.proofs.batch.read_lines.Given as goal

abbrev pub invariant-loop-n : goal.invariant-loop-n
invariant-loop-n l = Gathering l.input l.from l.ticks l.events l.n l.at
