-- `watching::batch::report_all` meets its contract. The invariant is `Reporting`. Assumes nothing.
use Rattle.watching.proofs.Reports.{Reporting}
use Rattle.watching.proofs.batch.report_all.Given as goal

abbrev pub invariant-loop-i : goal.invariant-loop-i
invariant-loop-i l = Reporting l.initial.later l.ticks l.answers l.initial.out l.out l.later l.written l.i
