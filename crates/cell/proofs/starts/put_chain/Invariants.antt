-- `cell::put_chain` meets its contract. The loop's invariant: the first i starts of the cell stand at the place.
-- Assumes nothing.
use mathlib.Core.Path.{◌≡◌}
use Prim.Native.Nat.{◌+◌, ◌*◌, ◌≤◌}
use lib.ListN.{length}
use lib.Seq.{paste}
use Rattle.rules.specs.declared.Op.TheVariants.{Chain}
use Rattle.cell.specs.Cell.{cell_starts}
use Rattle.cell.proofs.starts.put_chain.Given as goal

abbrev pub invariant-loop-i : goal.invariant-loop-i
invariant-loop-i l =
    (2 * l.i + 2 ≤ length l.cell) × (length l.starts ≡ length l.initial.starts) × (l.starts ≡ paste l.initial.starts l.at (cell_starts Chain l.cell) l.i)
