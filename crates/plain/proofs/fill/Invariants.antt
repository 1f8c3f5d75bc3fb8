-- `plain::fill` meets its contract: e of the entry's 64 rows are made. Assumes nothing.
use Rattle.plain.proofs.Fills.{Made}
use Rattle.plain.proofs.fill.Given as goal

abbrev pub invariant-loop-e : goal.invariant-loop-e
invariant-loop-e g l = Made (λ e row. g.F.Fn.post l.row (e, tt) row) l.k l.e l.initial.rows l.rows
