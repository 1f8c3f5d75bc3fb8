-- `watching::batch::line_to` meets its contract: a tick is read up to a line feed. Assumes nothing.
use native.Mathlib.Omega.{arith}
use Rattle.watching.proofs.Gatherings.{found_to}
use Rattle.watching.proofs.batch.line_to.Goals as goal

pub returns-in-Ok : goal.returns-in-Ok
returns-in-Ok c =
    found_to c.requires (omega (arith, c.requires.inside, c.if-end-input.false)) c.in-Ok.ensures
