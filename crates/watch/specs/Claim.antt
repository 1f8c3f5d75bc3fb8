-- What is claimed of a run of the watch program, on what `take_all` and `finish` promise: the input they speak of and the bytes handed to the writer.
-- Assumes nothing: these are definitions.
use Rattle.std.specs.Prelude.{ℕ, ◌≤◌, ◌≡◌, List, ◌∷◌, ◌++◌, length, take}
use Rattle.watching.specs.Whole.{lines_of, Prints}
use Rattle.watching.specs.Claim.{Sound, Ruled}
use Rattle.watch.specs.declared.Progress.{Progress}
use Rattle.watch.specs.declared.Wrote.{Wrote}
use Rattle.watch.specs.Watch.{state_words, InputTaken, InputEnded}

-- the output is what the lines of the input print, and for a sound input the windows that the rules ask for and their tally
pub record Printed (state input output : List ℕ) : Type 0 where
  pub prints : Prints state input output
  pub sound : (p : List ℕ) (ls : List (List ℕ)) (x : Sound p ls) → lines_of input ≡ p ∷ ls → Ruled p ls x output

-- if the input ended, all that was handed to the writer is its output
abbrev pub WholeOutput : Type 0
WholeOutput =
    (part part' state state₁ state' out out' : List ℕ) (p : Progress) (w : Wrote) → state_words ≤ length state
    → (i : InputTaken part part' state state₁ p) → InputEnded p part' state₁ state' out out' w
    → Printed state i.input (i.bytes ++ take w.bytes out')

-- if a read or a write failed before that, it is the beginning of the output, however the input would have gone on
abbrev pub OutputBegun : Type 0
OutputBegun =
    (part part' state state' : List ℕ) (p : Progress) (i : InputTaken part part' state state' p) (later right : List ℕ)
    → Prints state (i.input ++ later) right → (rest : List ℕ) × (right ≡ i.bytes ++ rest)
