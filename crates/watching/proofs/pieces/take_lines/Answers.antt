-- `watching::pieces::take_lines` meets its contract: many at once, and then one by one. Assumes nothing.
use native.Mathlib.Omega.{arith}
use Rattle.watching.proofs.Progress.{writes_length, progress_then}
use Rattle.watching.proofs.pieces.take_lines.Goals as goal

pub returns : goal.returns
returns c =
    record {
      progress = progress_then c.take_batches-many.ensures c.take_each.ensures.progress;
      stops = λ h. c.take_each.ensures.stops (omega (arith, h, writes_length c.take_batches-many.ensures.writes));
    }
