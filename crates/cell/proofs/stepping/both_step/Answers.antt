-- `cell::both_step` meets its contract: left and right are renewed one after the other, and do not share words. Assumes nothing.
use Rattle.cell.proofs.Steps.{both_stepped}
use Rattle.cell.proofs.stepping.both_step.Goals as goal

pub returns : goal.returns
returns c =
    λ ys.
    both_stepped _ _ _ ys _ _ _ _ _ _ c.requires c.renew-left.ensures c.renew-right.ensures (cc)
