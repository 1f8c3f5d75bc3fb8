-- `watching::tick_line` meets its contract: the line is read, and then the state takes its tick. Assumes nothing.
use mathlib.Core.Path.{refl}
use Rattle.std.proofs.lemmas.Result.{err_from_is_err_and}
use Rattle.watching.specs.Answer.FurtherLine.{unread, unticked, window, nothing}
use Rattle.watching.proofs.tick_line.Goals as goal

pub returns-in_err-tick : goal.returns-in_err-tick
returns-in_err-tick c =
    let p = err_from_is_err_and c.from_residual.result c.from_residual.ensures.1 in
    rw (p.1, p.2) (unread c.in_err-tick.ensures refl)

pub returns-in_err-start : goal.returns-in_err-start
returns-in_err-start c =
    let p = err_from_is_err_and c.from_residual-in_err-start.result c.from_residual-in_err-start.ensures.1 in
    rw (p.1, p.2) (unticked c.in_ok-tick.ensures c.in_err-start.ensures)

pub returns-in-Some : goal.returns-in-Some
returns-in-Some c = window c.in_ok-tick.ensures (rw c.in-Some.is at c.in_ok-start.ensures)

pub returns-in-None : goal.returns-in-None
returns-in-None c = nothing c.in_ok-tick.ensures (rw c.in-None.is at c.in_ok-start.ensures)
