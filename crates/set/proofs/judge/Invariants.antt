-- `set::judge` meets its contract: the invariant is `Judging`. Assumes nothing.
use Rattle.set.proofs.Judges.{Judging}
use Rattle.set.proofs.judge.Given as goal

abbrev pub invariant-loop-i : goal.invariant-loop-i
invariant-loop-i l = Judging l.n l.states l.t l.ends l.i l.at l.late
