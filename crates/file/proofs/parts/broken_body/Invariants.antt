-- `file::parts::broken_body` meets its contract: the bodies left decide. Assumes nothing.
use Rattle.file.proofs.Turns.{Searched}
use Rattle.file.proofs.parts.broken_body.Given as goal

abbrev pub invariant-loop-b : goal.invariant-loop-b
invariant-loop-b l = Searched l.counts l.bodies l.b l.at
