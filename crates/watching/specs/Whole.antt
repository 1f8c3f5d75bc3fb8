-- A whole input: its lines, and what is written for them. Assumes nothing: these are definitions.
use Rattle.std.specs.Prelude.{ℕ, ◌≡◌, cond, List, [], ◌∷◌, ◌++◌, eqb}
use Rattle.watching.specs.declared.Run.{Run}
use Rattle.watching.specs.Runs.{fresh, finish_line}
use Rattle.watching.specs.Answer.{LineTaken}

-- a line that the end of input ends: a last line feed begins no line
abbrev pub last_line : List ℕ → List (List ℕ)
last_line [] = []
last_line (c ∷ l) = (c ∷ l) ∷ []

-- a line ends at a line feed or at the end of input; l is its beginning, 10 the line feed
unfoldable pub lines_from : List ℕ → List ℕ → List (List ℕ)
lines_from l [] = last_line l
lines_from l (c ∷ input) = cond (eqb c 10) (l ∷ lines_from [] input) (lines_from (l ++ (c ∷ [])) input)

-- empty input has an empty line 1
abbrev pub lines_of : List ℕ → List (List ℕ)
lines_of [] = [] ∷ []
lines_of (c ∷ input) = lines_from [] (c ∷ input)

-- lines taken one after the other, from a run and a state to a run and a state; and all bytes written for them
pub data Takes : Run → List ℕ → List (List ℕ) → Run → List ℕ → List ℕ → Type 0 where
  none : {run : Run} {s : List ℕ} → Takes run s [] run s []
  more : {run run₁ run' : Run} {l s s₁ s' bytes rest : List ℕ} {ls : List (List ℕ)} → LineTaken run l s s₁ run₁ bytes
      → Takes run₁ s₁ ls run' s' rest → Takes run s (l ∷ ls) run' s' (bytes ++ rest)

-- the output for an input, where s has the words for the state: what its lines write, and then the tally, if no refusal ended the run
pub record Prints (s input output : List ℕ) : Type 0 where
  pub run : Run
  pub state : List ℕ
  pub bytes : List ℕ
  pub takes : Takes fresh s (lines_of input) run state bytes
  pub whole : output ≡ bytes ++ finish_line run
