-- `cell::in_form` meets its contract: each arm is the case of `cell_in_form`. Assumes nothing.
use Rattle.cell.proofs.FormLaws.{either_in_form}
use Rattle.cell.proofs.in_form.Goals as goal

pub returns-in-Either : goal.returns-in-Either
returns-in-Either c = rw c.in-Either.is (either_in_form _ _)
