-- `cell::Kept::insert` meets its contract. The loop's invariant is `Carrying`: putting what is carried into what is left makes the whole.
-- Assumes nothing.
use mathlib.Core.Path.{◌≡◌}
use Rattle.detector.specs.Choice.{insert}
use Rattle.cell.specs.Pairs.{span_of, spans_from}
use Rattle.cell.proofs.Insertion.{Carrying}
use Rattle.cell.proofs.kept.Kept.insert.Given as goal

abbrev pub invariant-loop-i : goal.invariant-loop-i
invariant-loop-i l =
    let first = l.initial.self-inside in
    (l.self-inside.count ≡ first.count)
    × Carrying (insert (span_of l.initial.carried) (spans_from first.words 0 first.count)) l.self-inside.count l.self-inside.words l.i (span_of l.carried)
