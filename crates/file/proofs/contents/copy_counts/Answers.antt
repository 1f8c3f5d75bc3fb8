use native.Mathlib.Omega.{arith}
use Rattle.file.proofs.Turns.{copied_more}
use Rattle.file.proofs.contents.copy_counts.Goals as goal

pub loop-i-preserved : goal.loop-i-preserved
loop-i-preserved c = copied_more c.loop-i.invariant (omega arith) (omega arith)
