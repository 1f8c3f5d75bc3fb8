use mathlib.Core.Path.{◌∙◌}
use Rattle.watching.proofs.Progress.{progress_then}
use Rattle.watching.proofs.pieces.take_each.Goals as goal

pub loop-out-preserved : goal.loop-out-preserved
loop-out-preserved c =
    (progress_then c.loop-out.invariant.0 c.take_next-p.ensures.0, c.take_next-p.auto.state ∙ c.loop-out.invariant.1)
