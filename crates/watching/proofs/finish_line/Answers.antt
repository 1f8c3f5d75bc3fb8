-- `watching::finish_line` meets its contract: the tally is written of a running run only. Assumes nothing.
use native.Mathlib.Omega.{arith}
use Rattle.watching.proofs.Takings.{is_finished}
use Rattle.watching.proofs.finish_line.Goals as goal

pub returns-in-Running : goal.returns-in-Running
returns-in-Running c =
    is_finished c.args.run _ _ _ c.write_tally.result c.requires c.in-Running.ensures (omega arith) (omega arith)
    c.write_tally.ensures c.unwrap_or.ensures
