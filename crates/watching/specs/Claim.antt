-- What is claimed of a whole input: that the output is what the rules ask for (docs/RULES.md, "The watch program"); and that the promises leave no
-- choice. Assumes nothing: these are definitions.
use Rattle.std.specs.Prelude.{ℕ, suc, zero, ◌≤◌, ◌≡◌, List, [], ◌∷◌, ◌++◌, length, take, Ok, Result}
use Rattle.rules.specs.Limits.{most_entries, most_text}
use Rattle.rules.specs.Pattern.{Pattern, size}
use Rattle.rules.specs.Instances.{Has, Latest}
use Rattle.rules.specs.History.{Tick, Rising, record_of}
use Rattle.text.specs.Grammar.{TextOf}
use Rattle.watcher.specs.State.{room_of}
use Rattle.tally.specs.Claim.{Window, span}
use Rattle.line.specs.Lines.{window_line, tally_line}
use Rattle.line.specs.Answer.{IsTick}
use Rattle.watching.specs.declared.Run.{Run}
use Rattle.watching.specs.Runs.{fresh}
use Rattle.watching.specs.Whole.{lines_of, Takes, Prints}
use Rattle.watching.specs.Chunk.{ChunkAnswers, FinishAnswers, Given}
use Rattle.refusal.specs.declared.Refusal.{Refusal}
use Rattle.watching.specs.declared.Chunked.{Chunked}

-- lines that are each the line of a tick: the ticks
pub data AreTicks : List (List ℕ) → List Tick → Type 0 where
  none : AreTicks [] []
  tick : {l : List ℕ} {ls : List (List ℕ)} {k : List Tick} (t w : ℕ) → IsTick l t w → AreTicks ls k → AreTicks (l ∷ ls) ((t, w) ∷ k)

-- the window that ends at t, by its start + 1; none for 0
abbrev pub window_at : ℕ → ℕ → List Window
window_at zero t = []
window_at (suc start) t = (start, t) ∷ []

-- the windows that the rules ask for at ticks that follow those of h: one at each tick at which an instance ends, with the latest start
pub data Reports (e : Pattern) : List Tick → List Tick → List Window → Type 0 where
  none : {h : List Tick} → Reports e h [] []
  tick : {h k : List Tick} {ws : List Window} (t w a : ℕ) → Latest (Has (record_of (h ++ ((t, w) ∷ []))) e) t a
      → Reports e (h ++ ((t, w) ∷ [])) k ws → Reports e h ((t, w) ∷ k) (window_at a t ++ ws)

-- each window as `start end`
unfoldable pub window_lines : List Window → List ℕ
window_lines [] = []
window_lines (w ∷ ws) = window_line w.0 w.1 ++ window_lines ws

-- line 1 is the text of a pattern and the others are ticks that rise; the bytes are the windows that the rules ask for, and the run has their tally
pub record Agreed (p : List ℕ) (ls : List (List ℕ)) (bytes : List ℕ) (run : Run) : Type 0 where
  pub pattern : Pattern
  pub text : TextOf p pattern
  pub ticks : List Tick
  pub lines : AreTicks ls ticks
  pub rising : Rising 0 ticks
  pub windows : List Window
  pub reports : Reports pattern [] ticks windows
  pub written : bytes ≡ window_lines windows
  pub counted : run.tally.windows ≡ length windows
  pub summed : run.tally.ticks ≡ span windows

-- as long as no line is refused, what is written is what the rules ask for
abbrev pub LinesAgree : Type 0
LinesAgree =
    (s s' p bytes : List ℕ) (ls : List (List ℕ)) (run : Run) → Takes fresh s (p ∷ ls) run s' bytes → run.phase ≡ 1 → Agreed p ls bytes run

-- so the output for an input that no refusal ends is those windows and then their number and their sum
abbrev pub OutputAgrees : Type 0
OutputAgrees =
    (s input output p : List ℕ) (ls : List (List ℕ)) (x : Prints s input output) → lines_of input ≡ p ∷ ls → x.run.phase ≡ 1
    → (a : Agreed p ls x.bytes x.run) × (output ≡ window_lines a.windows ++ tally_line (length a.windows) (span a.windows))

-- line 1 is the text of a pattern within the limits, and each other line that of a tick in range; the ticks rise
pub record Sound (p : List ℕ) (ls : List (List ℕ)) : Type 0 where
  pub pattern : Pattern
  pub text : TextOf p pattern
  pub short : length p ≤ most_text
  pub few : size pattern ≤ most_entries
  pub ticks : List Tick
  pub lines : AreTicks ls ticks
  pub rising : Rising 0 ticks

-- such lines are not refused, where there is room for the state
abbrev pub SoundAccepted : Type 0
SoundAccepted =
    (s s' p bytes : List ℕ) (ls : List (List ℕ)) (run : Run) (x : Sound p ls) → room_of x.pattern ≤ length s
    → Takes fresh s (p ∷ ls) run s' bytes → run.phase ≡ 1

-- the windows that the rules ask for, each on a line, and their tally
pub record Ruled (p : List ℕ) (ls : List (List ℕ)) (x : Sound p ls) (output : List ℕ) : Type 0 where
  pub windows : List Window
  pub reports : Reports x.pattern [] x.ticks windows
  pub written : output ≡ window_lines windows ++ tally_line (length windows) (span windows)

-- so these are the output for such an input
abbrev pub SoundPrinted : Type 0
SoundPrinted =
    (s input output p : List ℕ) (ls : List (List ℕ)) (x : Sound p ls) → room_of x.pattern ≤ length s → Prints s input output → lines_of input ≡ p ∷ ls
    → Ruled p ls x output

-- however an input is cut into chunks, and whatever room each finds, what is written for it and at its end is what its lines print
abbrev pub InputPrints : Type 0
InputPrints =
    (s s₁ s' p p' d d' input bytes : List ℕ) (run : Run) (held n : ℕ) → Given fresh 0 p s input run held p' s₁ bytes
    → FinishAnswers run held p' s₁ s' d d' (Ok n) → Prints s input (bytes ++ take n d')

-- what is written for an input stands first in the output for every input that begins with it
abbrev pub OutputBegins : Type 0
OutputBegins =
    (s s' p p' input later bytes output : List ℕ) (run : Run) (held : ℕ) → Given fresh 0 p s input run held p' s' bytes → Prints s (input ++ later) output
    → (rest : List ℕ) × (output ≡ bytes ++ rest)

-- no second answer, held bytes, state and output meet the promise of taking a chunk
abbrev pub OneChunk : Type 0
OneChunk =
    (run : Run) (held : ℕ) (chunk p p₁ p₂ s s₁ s₂ d d₁ d₂ : List ℕ) (r₁ r₂ : Result Chunked Refusal) → ChunkAnswers run held chunk p p₁ s s₁ d d₁ r₁
    → ChunkAnswers run held chunk p p₂ s s₂ d d₂ r₂ → (r₁ ≡ r₂) × (p₁ ≡ p₂) × (s₁ ≡ s₂) × (d₁ ≡ d₂)

-- nor that of finishing
abbrev pub OneEnd : Type 0
OneEnd =
    (run : Run) (held : ℕ) (p s s₁ s₂ d d₁ d₂ : List ℕ) (r₁ r₂ : Result ℕ Refusal) → FinishAnswers run held p s s₁ d d₁ r₁
    → FinishAnswers run held p s s₂ d d₂ r₂ → (r₁ ≡ r₂) × (s₁ ≡ s₂) × (d₁ ≡ d₂)

-- the words that the program has are enough for the state of any pattern
abbrev pub RoomEnough : Type 0
RoomEnough = (e : Pattern) → size e ≤ most_entries → room_of e ≤ 4096
