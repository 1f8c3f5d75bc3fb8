-- `plain::lesser` meets its contract: the lesser starts are those of either row up to the lesser of the two latest. Assumes nothing.
use native.Mathlib.Omega.{arith}
use Rattle.plain.specs.Row.{IsLatest}
use mathlib.Core.Path.{subst}
use Rattle.plain.proofs.Sets.{lesser_none, lesser_none_r, lesser_at}
use Rattle.plain.proofs.lesser.Goals as goal

pub returns-in-None : goal.returns-in-None
returns-in-None c = lesser_none _ _ (subst (IsLatest _) c.in-None.is c.latest_start.ensures)

pub returns-in-None-latest_start : goal.returns-in-None-latest_start
returns-in-None-latest_start c = lesser_none_r _ _ (subst (IsLatest _) c.in-None-latest_start.is c.latest_start-in-Some.ensures)

pub returns-in-Some-latest_start : goal.returns-in-Some-latest_start
returns-in-Some-latest_start c =
    lesser_at _ _ c.in-Some.l c.in-Some-latest_start.m _ c.upto.result
    (subst (IsLatest _) c.in-Some.is c.latest_start.ensures)
    (subst (IsLatest _) c.in-Some-latest_start.is c.latest_start-in-Some.ensures)
    (omega arith)
    c.upto.ensures
