-- One lemma for each way out of the code that takes a line, over plain variables. Assumes nothing.
use Rattle.std.specs.Prelude.{Ok, Err, Some, None, Result}
use Prim.Native.Nat.{ℕ, ◌-◌, ◌^◌, ◌<◌, ◌≤◌}
use mathlib.Core.Path.{◌≡◌, refl}
use mathlib.Core.List.{List, []}
use lib.ListN.{length, take}
use borrow.Author.Tests.{eq-eqb}
use native.Mathlib.Omega.{arith}
use Rattle.refusal.specs.declared.Refusal.{Refusal}
use Rattle.refusal.specs.Table.{number_of}
use Rattle.refusal.proofs.Theorem.{numbered}
use Rattle.tally.specs.declared.Tally.{Tally}
use Rattle.tally.specs.Tallied.{added_to}
use Rattle.line.specs.Lines.{most_written, most_tally, window_line, tally_line, refused_line}
use Rattle.line.specs.Answer.{LineWrittenOf, IsWritten}
use Rattle.watching.specs.declared.Phase.{Phase}
use Rattle.watching.specs.declared.Phase.TheVariants.{Fresh, Running, Ended}
use Rattle.watching.specs.declared.Run.{Run}
use Rattle.watching.specs.declared.Taken.{Taken}
use Rattle.watching.specs.Runs.{IsPhase, next_line, next_run, finish_line}
use Rattle.watching.specs.Answer.{FirstLine, FurtherLine, Acted, IsTaken, IsActed, refusing}
use Rattle.watching.specs.Answer.Acted.{silent, added, full, refused}
use Rattle.watching.specs.Answer.LineTaken.{first, further, after}
use Rattle.watching.proofs.Writings.{nothing_written, window_written, tally_written, refused_written}
use Rattle.watching.specs.Answer.{LineAnswer}
use Rattle.std.specs.Result.{result_unwrap_or}

number_fits : (r : Refusal) → number_of r < 2 ^ 64
number_fits r = omega (arith, numbered r)

-- a run that is not before line 1
pub not_fresh : (n : ℕ) (p : Phase) → IsPhase n p → (p ≡ Fresh → ⊥) → n ≡ 0 → ⊥
not_fresh n Fresh h other e = other refl
not_fresh n Running h other e = omega arith
not_fresh n Ended h other e = omega arith

-- a part from the beginning
pub part_first : (n : ℕ) (body : List ℕ) → take (n - 0) body ≡ take n body
part_first n body = let e : n - 0 ≡ n = omega arith in rw e

-- ---- answers

pub is_silent : (run run' : Run) (d : List ℕ) → run' ≡ next_run run run.tally → IsActed run (Ok None) d d (record { run = run'; written = 0 })
is_silent run run' d e = record { bytes = []; acted = rw e silent; written = nothing_written d }

module _ (run : Run) (d d' : List ℕ) (q : most_written ≤ length d) where
  pub is_refused : (r : Refusal) (n k b : ℕ) (w : Result ℕ Refusal)
      → n ≡ next_line run.line → k ≡ number_of r → LineWrittenOf (refused_line n k) d d' w → b ≡ result_unwrap_or w 0
      → IsActed run (Err r) d d' (record { run = record { phase = 2; line = n; tally = run.tally }; written = b })
  is_refused r n k b w en ek h eb = record {
    bytes = refusing run r;
    acted = rw en refused;
    written = rw eb (refused_written d d' w (next_line run.line) (number_of r) (omega arith) (number_fits r) q (rw (en, ek) at h));
  }

  pub is_added : (start t n b : ℕ) (tally : Tally) (a : Result Tally Refusal) (w : Result ℕ Refusal) → start < 2 ^ 64 → t < 2 ^ 64
      → a ≡ added_to run.tally start t → a ≡ Ok tally → n ≡ next_line run.line
      → LineWrittenOf (window_line start t) d d' w → b ≡ result_unwrap_or w 0
      → IsActed run (Ok (Some (start, t))) d d' (record { run = record { phase = 1; line = n; tally = tally }; written = b })
  is_added start t n b tally a w fs ft ea et en h eb = record {
    bytes = window_line start t;
    acted = rw en (added {start = start} {t = t} {tally = tally} (cc));
    written = rw eb (window_written d d' w start t fs ft q h);
  }

-- a window that the tally refuses
full_acted : {run run' : Run} {start t : ℕ} {r : Refusal} {bytes : List ℕ} → added_to run.tally start t ≡ Err r
    → Acted run (Err r) run' bytes → Acted run (Ok (Some (start, t))) run' bytes
full_acted e refused = full e

pub is_full : (run : Run) (d d' : List ℕ) (start t : ℕ) (r : Refusal) (a : Result Tally Refusal) (taken : Taken)
    → a ≡ added_to run.tally start t → a ≡ Err r → IsActed run (Err r) d d' taken → IsActed run (Ok (Some (start, t))) d d' taken
is_full run d d' start t r a taken ea er i = record {
  bytes = i.bytes;
  acted = full_acted (cc) i.acted;
  written = i.written;
}

-- an answer that is known
pub acted_by : {run : Run} {a b : LineAnswer} {d d' : List ℕ} {taken : Taken} → a ≡ b → IsActed run b d d' taken → IsActed run a d d' taken
acted_by e i = rw e i

-- ---- lines

module _ {run : Run} {l s s' d d' : List ℕ} {a : LineAnswer} {taken : Taken} where
  pub first_taken : run.phase ≡ 0 → FirstLine l s s' a → IsActed run a d d' taken → IsTaken run l s s' d d' taken
  first_taken p x i = record { bytes = i.bytes; line = first p x i.acted; written = i.written }

  pub further_taken : run.phase ≡ 1 → FurtherLine l s s' a → IsActed run a d d' taken → IsTaken run l s s' d d' taken
  further_taken p x i = record { bytes = i.bytes; line = further p x i.acted; written = i.written }

pub after_taken : (run : Run) (l s d : List ℕ) → 1 < run.phase → IsTaken run l s s d d (record { run = run; written = 0 })
after_taken run l s d p = record { bytes = []; line = after p refl; written = nothing_written d }

-- ---- the tally

pub is_finished : (run : Run) (d d' : List ℕ) (b : ℕ) (w : Result ℕ Refusal) → most_tally ≤ length d → run.phase ≡ 1 → run.tally.windows < 2 ^ 64
    → run.tally.ticks < 2 ^ 64 → LineWrittenOf (tally_line run.tally.windows run.tally.ticks) d d' w → b ≡ result_unwrap_or w 0
    → IsWritten (finish_line run) d d' b
is_finished run d d' b w q p fw ft h eb =
    simp (eq-eqb run.phase 1 p, eb) (tally_written d d' w run.tally.windows run.tally.ticks fw ft q h)
