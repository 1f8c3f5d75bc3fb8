-- `cell::without_step` meets its contract: one word is read and stored. Assumes nothing.
use Rattle.cell.proofs.Steps.{without_stands, without_falls}
use Rattle.cell.proofs.stepping.without_step.Goals as goal

pub returns-then-seen-x : goal.returns-then-seen-x
returns-then-seen-x c =
    λ t ys. without_stands t _ _ ys _ _ c.requires c.max-seen.ensures c.if-seen-x.true

pub returns-else-seen-x : goal.returns-else-seen-x
returns-else-seen-x c =
    λ t ys. without_falls t _ _ ys _ _ c.requires c.max-seen.ensures c.if-seen-x.false
