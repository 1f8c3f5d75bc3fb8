-- The bytes that are left of the line fall.
use Rattle.std.proofs.Common.{length}
use Rattle.replay.proofs.watched.answers.Given as goal

abbrev pub decreases-loop-rest : goal.decreases-loop-rest
decreases-loop-rest l = length l.rest
