-- `watcher::form::judged_end` meets its contract: the invariant is `Judging`. Assumes nothing.
use Rattle.watcher.proofs.form.Judging.{Judging}
use Rattle.watcher.proofs.form.judged_end.Given as goal

abbrev pub invariant-loop-i : goal.invariant-loop-i
invariant-loop-i l = Judging l.state l.i l.at l.possible
