-- `plain::fill_rows` meets its contract: the invariant is `Filling`. Assumes nothing.
use Rattle.plain.proofs.Loops.{Filling}
use Rattle.plain.proofs.fill_rows.Given as goal

abbrev pub invariant-loop-k : goal.invariant-loop-k
invariant-loop-k l = Filling l.body l.events l.initial.rows l.k-end l.rows l.trees l.k
