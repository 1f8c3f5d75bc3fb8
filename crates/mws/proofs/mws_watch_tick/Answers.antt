-- `mws::mws_watch_tick` meets its contract: a start is at most the tick, so start + 1 fits. Assumes nothing.
use native.Mathlib.Omega.{arith}
use Rattle.watcher.specs.Answer.{IsTicked}
use Rattle.detector.proofs.Form.{answer_le}
use Rattle.mws.proofs.mws_watch_tick.Goals as goal

pub overflow_add-answer : goal.overflow_add-answer
overflow_add-answer c =
    let s = c.args in
    let p : IsTicked _ _ s.t s.events _ = rw c.in-Some.is at c.in-Ok.ensures in
    omega (arith, p.range, p.answered, answer_le s.t s.events p.form.next p.late p.form.pattern p.form.memory p.form.form)
