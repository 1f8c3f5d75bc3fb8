-- `watching::refused` meets its contract: there is room for a refusal's line, so it is written. Assumes nothing.
use Rattle.watching.proofs.Takings.{is_refused}
use Rattle.watching.proofs.refused.Goals as goal

pub returns : goal.returns
returns c =
    is_refused _ _ _ c.requires _ _ _ _ c.write_refused.result c.saturating_add-line.ensures c.number.ensures
    c.write_refused.ensures c.unwrap_or.ensures
