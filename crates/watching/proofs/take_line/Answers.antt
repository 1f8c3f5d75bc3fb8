-- `watching::take_line` meets its contract, by how far the run is. Assumes nothing.
use Rattle.watching.proofs.Takings.{first_taken, further_taken, after_taken}
use Rattle.watching.proofs.take_line.Goals as goal

pub returns-in-Fresh : goal.returns-in-Fresh
returns-in-Fresh c = first_taken c.in-Fresh.ensures c.open_line.ensures c.act.ensures

pub returns-in-Running : goal.returns-in-Running
returns-in-Running c = further_taken c.in-Running.ensures c.tick_line.ensures c.act-in-Running.ensures

pub returns-in-Ended : goal.returns-in-Ended
returns-in-Ended c = after_taken _ _ _ _ c.in-Ended.ensures
