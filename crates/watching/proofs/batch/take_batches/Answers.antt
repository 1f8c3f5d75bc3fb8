use mathlib.Core.Path.{◌∙◌}
use Rattle.watching.proofs.Progress.{progress_then}
use Rattle.watching.proofs.batch.take_batches.Goals as goal

pub returns-then-later-p : goal.returns-then-later-p
returns-then-later-p c =
    progress_then c.loop-p.invariant.0 c.take_batch-later.ensures

pub loop-p-preserved : goal.loop-p-preserved
loop-p-preserved c =
    (progress_then c.loop-p.invariant.0 c.take_batch-later.ensures, c.take_batch-later.auto.state ∙ c.loop-p.invariant.1)
