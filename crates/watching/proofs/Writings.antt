-- Every line fits the room that is required for it, so that none is refused for lack of room. Assumes nothing.
use Rattle.std.specs.Prelude.{Ok, Err, Result}
use Prim.Native.Nat.{ℕ, ◌^◌, ◌<◌, ◌≤◌}
use mathlib.Core.Path.{refl}
use mathlib.Core.List.{List, []}
use lib.ListN.{length}
use native.Mathlib.Omega.{arith}
use Rattle.line.specs.Lines.{most_written, most_tally, window_line, tally_line, refused_line}
use Rattle.line.specs.Answer.{LineWrittenOf, IsWritten}
use Rattle.line.specs.Answer.RefusedWriting.{room}
use Rattle.line.proofs.Theorem.{at_most_written}
use Rattle.refusal.specs.declared.Refusal.{Refusal}
use Rattle.std.specs.Result.{result_unwrap_or}

-- nothing is written
pub nothing_written : (d : List ℕ) → IsWritten [] d d 0
nothing_written d = record { counts = refl; fits = omega arith; written = refl }

-- a line is written where there is room for it
fits_written : (bytes d d' : List ℕ) (r : Result ℕ Refusal) → LineWrittenOf bytes d d' r → length bytes ≤ length d → IsWritten bytes d d' (result_unwrap_or r 0)
fits_written bytes d d' (Ok n) a p = a
fits_written bytes d d' (Err r) (room i, k) p = absurd (omega (arith, i.needs, i.lacks))

module _ (d d' : List ℕ) (r : Result ℕ Refusal) (a b : ℕ) (f : a < 2 ^ 64) (g : b < 2 ^ 64) where
  pub window_written : most_written ≤ length d → LineWrittenOf (window_line a b) d d' r → IsWritten (window_line a b) d d' (result_unwrap_or r 0)
  window_written q w = fits_written (window_line a b) d d' r w (omega (arith, (at_most_written a b f g).0))

  pub tally_written : most_tally ≤ length d → LineWrittenOf (tally_line a b) d d' r → IsWritten (tally_line a b) d d' (result_unwrap_or r 0)
  tally_written q w = fits_written (tally_line a b) d d' r w (omega (arith, (at_most_written a b f g).1))

  pub refused_written : most_written ≤ length d → LineWrittenOf (refused_line a b) d d' r → IsWritten (refused_line a b) d d' (result_unwrap_or r 0)
  refused_written q w = fits_written (refused_line a b) d d' r w (omega (arith, (at_most_written a b f g).2))
