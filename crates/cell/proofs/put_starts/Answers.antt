-- `cell::put_starts` meets its contract: each arm is the case of `cell_starts`. Assumes nothing.
use Rattle.cell.specs.Cell.{cell_starts}
use Rattle.cell.proofs.StartLaws.{push_same}
use Rattle.cell.proofs.put_starts.Goals as goal

pub returns-in-Either : goal.returns-in-Either
unfolding cell_starts
returns-in-Either c = push_same _ _ _ _ (rw c.in-Either.is)

pub returns-in-Without : goal.returns-in-Without
unfolding cell_starts
returns-in-Without c = push_same _ _ _ _ (rw c.in-Without.is)
