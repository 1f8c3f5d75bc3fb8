-- What acting on an answer does to the run, and what it writes. Assumes nothing.
use Rattle.std.specs.Prelude.{Ok, Err, Some}
use Prim.Native.Nat.{ℕ, ◌<◌}
use mathlib.Core.Path.{◌≡◌, refl}
use mathlib.Core.Logic.{◌⊎◌, inl, inr}
use mathlib.Core.List.{List}
use native.Mathlib.Omega.{arith}
use Rattle.refusal.specs.declared.Refusal.{Refusal}
use Rattle.tally.specs.declared.Tally.{Tally}
use Rattle.tally.specs.Tallied.{added_to}
use Rattle.line.specs.Lines.{window_line}
use Rattle.watching.specs.declared.Run.{Run}
use Rattle.watching.specs.Runs.{next_run}
use Rattle.watching.specs.Answer.{Acted}
use Rattle.watching.specs.Answer.Acted.{added, full, refused}

-- a refusal ends the run
pub refused_ends : {run run' : Run} {r : Refusal} {bytes : List ℕ} → Acted run (Err r) run' bytes → 1 < run'.phase
refused_ends refused = omega arith

-- the tally took a window, and its line was written
pub record IsAdded (run run' : Run) (start t : ℕ) (bytes : List ℕ) : Type 0 where
  pub tally : Tally
  pub adds : added_to run.tally start t ≡ Ok tally
  pub next : run' ≡ next_run run tally
  pub line : bytes ≡ window_line start t

-- the tally refused a window, and the run ended
pub record IsFull (run run' : Run) (start t : ℕ) : Type 0 where
  pub refusal : Refusal
  pub refuses : added_to run.tally start t ≡ Err refusal
  pub ends : 1 < run'.phase

pub acted_window : {run run' : Run} {start t : ℕ} {bytes : List ℕ} → Acted run (Ok (Some (start, t))) run' bytes
    → IsAdded run run' start t bytes ⊎ IsFull run run' start t
acted_window (added {tally = tally} e) = inl (record { tally = tally; adds = e; next = refl; line = refl })
acted_window (full {r = r} e) = inr (record { refusal = r; refuses = e; ends = omega arith })
