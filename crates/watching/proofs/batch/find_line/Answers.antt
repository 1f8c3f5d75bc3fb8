-- `watching::batch::find_line` meets its contract: the line may end at either line feed. Assumes nothing.
use native.Mathlib.Omega.{arith}
use Rattle.watching.proofs.Gatherings.{may_end}
use Rattle.watching.proofs.batch.find_line.Goals as goal

pub line_to-found-requires : goal.line_to-found-requires
line_to-found-requires c = may_end (omega arith) (omega arith) c.line_end-end.ensures.0 c.line_end-end.ensures.1

pub line_to-requires : goal.line_to-requires
line_to-requires c = may_end (omega arith) c.requires c.line_end-end-2.ensures.0 c.line_end-end-2.ensures.1
