-- `cell::choose_and_keep` meets its contract: without possible starts latest is the only pair; else the answer is chosen from the cell as it was,
-- and the kept pairs are gathered after it. Assumes nothing.
use mathlib.Core.Path.{◌∙◌}
use native.Mathlib.Omega.{arith}
use Rattle.cell.proofs.KeptLaws.{kept_nothing, latest_chosen}
use Rattle.cell.proofs.stepping.choose_and_keep.Goals as goal

pub returns-then-starts-eq0 : goal.returns-then-starts-eq0
returns-then-starts-eq0 c = (
  c.start_before.ensures ∙ latest_chosen c.args.cell.now c.args.y (omega arith),
  kept_nothing c.args.cell.now c.args.starts.now c.requires.1 c.if-starts-eq0.true,
)
