-- `watching::batch::report` meets its contract, by the answer. Assumes nothing.
use Rattle.watching.proofs.Reports.{reported_nothing, reported_window}
use Rattle.watching.proofs.batch.report.Goals as goal

pub returns-then-answer-eq0 : goal.returns-then-answer-eq0
returns-then-answer-eq0 c = reported_nothing _ _ _ _ _ c.if-answer-eq0.true c.next_run.ensures

pub returns : goal.returns
returns c =
    reported_window c.requires c.if-answer-eq0.false c.take_window.ensures
