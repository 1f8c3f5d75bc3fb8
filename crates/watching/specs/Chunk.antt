-- Input taken in pieces, as it is read: the bytes held of a line that has not ended, and what is written for the lines that end.
-- Assumes nothing: these are definitions.
use Rattle.std.specs.Prelude.{ℕ, ◌+◌, ◌-◌, ◌<◌, ◌≤◌, min, ◌≡◌, cond, List, [], ◌∷◌, ◌++◌, eqb, length, take, drop, Ok, Err, Result}
use Rattle.refusal.specs.declared.Refusal.TheVariants.{Room}
use Rattle.line.specs.Lines.{most_written, most_tally}
use Rattle.line.specs.Answer.{IsWritten}
use Rattle.watching.specs.declared.Run.{Run}
use Rattle.watching.specs.declared.Chunked.{Chunked}
use Rattle.watching.specs.Runs.{finish_line}
use Rattle.watching.specs.Answer.{LineTaken}
use Rattle.watching.specs.Whole.{Takes}
use Rattle.refusal.specs.declared.Refusal.{Refusal}

-- a line with this many bytes is too long, whatever follows: no more of it is held
abbrev pub most_held : ℕ
most_held = 1025

-- the bytes held of a line, with a byte more of it
abbrev pub hold : List ℕ → ℕ → List ℕ
hold h c = take most_held (h ++ (c ∷ []))

-- bytes taken one after the other, with the bytes h held and this room for output: the run, the bytes held and the state after them, what is
-- written, and the bytes left. A line feed ends the line; if a line might find no room, nothing more is taken
pub data TakesBytes : ℕ → Run → List ℕ → List ℕ → List ℕ → Run → List ℕ → List ℕ → List ℕ → List ℕ → Type 0 where
  all : {room : ℕ} {run : Run} {h s : List ℕ} → TakesBytes room run h s [] run h s [] []
  full : {room c : ℕ} {run : Run} {h s input : List ℕ} → room < most_written → TakesBytes room run h s (c ∷ input) run h s [] (c ∷ input)
  byte : {room c : ℕ} {run run' : Run} {h h' s s' input bytes left : List ℕ} → most_written ≤ room → (c ≡ 10 → ⊥)
      → TakesBytes room run (hold h c) s input run' h' s' bytes left → TakesBytes room run h s (c ∷ input) run' h' s' bytes left
  line : {room : ℕ} {run run₁ run' : Run} {h h' s s₁ s' input bytes rest left : List ℕ} → most_written ≤ room → LineTaken run h s s₁ run₁ bytes
      → TakesBytes (room - length bytes) run₁ [] s₁ input run' h' s' rest left → TakesBytes room run h s (10 ∷ input) run' h' s' (bytes ++ rest) left

-- the bytes held in p
abbrev pub held_in : ℕ → List ℕ → List ℕ
held_in held p = take (min held most_held) p

-- a chunk taken: the bytes held after it stand first in p', and what is written first in d'
pub record IsChunked (run : Run) (held : ℕ) (chunk p p' s s' d d' : List ℕ) (r : Chunked) : Type 0 where
  pub bytes : List ℕ
  pub kept : List ℕ
  pub left : List ℕ
  pub taken : TakesBytes (length d) run (held_in held p) s chunk r.run kept s' bytes left
  pub used : r.used + length left ≡ length chunk
  pub counts : r.held ≡ length kept
  pub holds : p' ≡ kept ++ drop (length kept) p
  pub written : IsWritten bytes d d' r.written

-- the promise of taking a chunk, where the bytes held stand in p; if p is too short for a line, nothing is done
abbrev pub ChunkAnswers : Run → ℕ → List ℕ → List ℕ → List ℕ → List ℕ → List ℕ → List ℕ → List ℕ → Result Chunked Refusal → Type 0
ChunkAnswers run held chunk p p' s s' d d' (Ok r) = (most_held ≤ length p) × IsChunked run held chunk p p' s s' d d' r
ChunkAnswers run held chunk p p' s s' d d' (Err r) = (length p < most_held) × (r ≡ Room most_held) × (p' ≡ p) × (s' ≡ s) × (d' ≡ d)

-- the lines that the end of input ends: what is held, if anything; and line 1, if there was none
abbrev pub last_lines : Run → List ℕ → List (List ℕ)
last_lines run [] = cond (eqb run.phase 0) ([] ∷ []) []
last_lines run (c ∷ h) = (c ∷ h) ∷ []

-- the output at the end of input, where h is held: what the last line writes, and then the tally of a run that no refusal ended
pub record Ends (run : Run) (h s s' output : List ℕ) : Type 0 where
  pub last : Run
  pub bytes : List ℕ
  pub takes : Takes run s (last_lines run h) last s' bytes
  pub whole : output ≡ bytes ++ finish_line last

-- finishing needs room for a line and for the tally's
abbrev pub most_finish : ℕ
most_finish = most_written + most_tally

-- the promise of finishing, where the bytes held stand in p; if there is no room, nothing is done
abbrev pub FinishAnswers : Run → ℕ → List ℕ → List ℕ → List ℕ → List ℕ → List ℕ → Result ℕ Refusal → Type 0
FinishAnswers run held p s s' d d' (Ok n) =
    (most_finish ≤ length d) × ((output : List ℕ) × Ends run (held_in held p) s s' output × IsWritten output d d' n)
FinishAnswers run held p s s' d d' (Err r) = (length d < most_finish) × (r ≡ Room most_finish) × (s' ≡ s) × (d' ≡ d)

-- an input given in chunks of any size, with any room for output each time: each call is given what the one before it left, and the bytes that
-- were not used come first in its chunk
pub data Given : Run → ℕ → List ℕ → List ℕ → List ℕ → Run → ℕ → List ℕ → List ℕ → List ℕ → Type 0 where
  none : {run : Run} {held : ℕ} {p s : List ℕ} → Given run held p s [] run held p s []
  more : {run run' : Run} {held held' : ℕ} {p p₁ p' s s₁ s' d d' chunk rest : List ℕ} {r : Chunked} (later : List ℕ)
      → ChunkAnswers run held chunk p p₁ s s₁ d d' (Ok r)
      → Given r.run r.held p₁ s₁ (drop r.used chunk ++ later) run' held' p' s' rest
      → Given run held p s (chunk ++ later) run' held' p' s' (take r.written d' ++ rest)
