-- `watching::pieces::take_next` meets its contract: the line is taken as far as bytes of it are held. Assumes nothing.
use mathlib.Core.Path.{refl}
use Rattle.watching.proofs.Progress.{next_progress}
use Rattle.watching.proofs.pieces.take_next.Goals as goal

pub returns : goal.returns
returns c =
    (next_progress c.requires c.min.ensures c.take_line-taken.ensures, refl)
