-- `watching::take_window` meets its contract: the window is added and written, or its refusal is. Assumes nothing.
use Rattle.watching.proofs.Takings.{is_added, is_full}
use Rattle.watching.proofs.take_window.Goals as goal

pub returns-in-Err : goal.returns-in-Err
returns-in-Err c =
    is_full _ _ _ _ _ _ _ _ c.added.ensures c.in-Err.is c.refused.ensures

pub returns-in-Ok : goal.returns-in-Ok
returns-in-Ok c =
    is_added _ _ _ c.requires _ _ _ _ _ _ c.write_window.result c.ranges.start.fits c.ranges.end.fits c.added.ensures
    c.in-Ok.is c.saturating_add.ensures c.write_window.ensures c.unwrap_or.ensures
