-- `cell::store_kept` meets its contract. The loop's invariant: the first i of the new words stand after latest.
-- Assumes nothing.
use mathlib.Core.Path.{◌≡◌}
use Prim.Native.Nat.{◌+◌, ◌-◌, ◌/◌, ◌≤◌}
use lib.ListN.{length}
use lib.Seq.{paste}
use Rattle.cell.specs.Words.{kept_words}
use Rattle.cell.proofs.kept.store_kept.Given as goal

abbrev pub invariant-loop-i : goal.invariant-loop-i
invariant-loop-i l =
    let c = l.initial.cell in
    (l.i + 2 ≤ length c) × (length l.cell ≡ length c) × (l.cell ≡ paste c 2 (kept_words (length c / 2 - 1) l.kept) l.i)
