-- `watcher::tick` meets its contract: the refusals in their order, then the step of the walk over the entries. Assumes nothing.
use mathlib.Core.Path.{refl, sym, ◌∙◌}
use native.Mathlib.Omega.{arith}
use Rattle.watcher.proofs.Judges.{extent_formed, extent_broken}
use Rattle.watcher.proofs.Calls.{ticked_answers, refused_form, refused_late}
use Rattle.watcher.proofs.tick.Goals as goal

pub returns-in_default : goal.returns-in_default
returns-in_default c = (refused_form _ _ (omega arith) (extent_broken _ (sym c.extent.ensures ∙ c.in_default.is)), refl)

pub returns-then-t-next_tick : goal.returns-then-t-next_tick
returns-then-t-next_tick c =
    (refused_late _ _ (omega arith) (extent_formed _ (sym c.extent.ensures ∙ c.in-Some.is)) (omega (arith, c.next_tick.ensures)), refl)

pub returns : goal.returns
returns c = ticked_answers c.step.ensures c.checked_sub.result c.checked_sub.ensures
