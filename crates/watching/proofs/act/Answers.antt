-- `watching::act` meets its contract, by the answer. Assumes nothing.
use mathlib.Core.Path.{ap, ◌∙◌}
use Rattle.std.specs.Prelude.{Ok}
use Rattle.watching.proofs.Takings.{is_silent, acted_by}
use Rattle.watching.proofs.act.Goals as goal

pub returns-in-None : goal.returns-in-None
returns-in-None c = acted_by (c.in-Ok.is ∙ ap Ok c.in-None.is) (is_silent _ _ _ c.next_run.ensures)
