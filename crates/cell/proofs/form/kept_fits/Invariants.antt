-- `cell::kept_fits` meets its contract. The loop's invariant: the pairs from the one reached on, above the last start, fit exactly if all do.
-- Assumes nothing.
use mathlib.Core.Path.{◌≡◌}
use Prim.Native.Nat.{◌*◌}
use lib.ListN.{drop}
use Rattle.cell.specs.Form.{kept_fits}
use Rattle.cell.proofs.form.kept_fits.Given as goal

abbrev pub invariant-loop-i : goal.invariant-loop-i
invariant-loop-i l = kept_fits l.next l.last (drop (2 * l.i) l.cell) ≡ kept_fits l.next 0 (drop 2 l.cell)
