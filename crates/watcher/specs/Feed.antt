-- What feeding promises: many ticks with the state judged once. Assumes nothing: these are definitions.
use Rattle.std.specs.Prelude.{◌≡◌, Result, Ok, Err, List, [], ◌∷◌, ◌++◌, ℕ, ◌+◌, ◌≤◌, ◌<◌, length, drop}
use Rattle.std.proofs.Math.Decide.{dec_le, dec_lt}
use Rattle.rules.specs.Decisions.{pick}
use Rattle.rules.specs.Limits.{ticks}
use Rattle.rules.specs.History.{Tick}
use Rattle.refusal.specs.declared.Refusal.{Refusal}
use Rattle.refusal.specs.declared.Refusal.TheVariants.{Room, State, Range, Late, Record}
use Rattle.watcher.specs.State.{InForm}
use Rattle.watcher.specs.Answer.{IsTicked}

-- ticks with their events
unfoldable pub paired : List ℕ → List ℕ → List Tick
paired [] ws = []
paired (t ∷ ts) [] = []
paired (t ∷ ts) (w ∷ ws) = (t, w) ∷ paired ts ws

-- ticks taken one after the other, each as a tick alone is: from the slice s to s', with their answers
pub data AllTicked : List ℕ → List Tick → List ℕ → List ℕ → Type 0 where
  none : {s : List ℕ} → AllTicked s [] [] s
  more : {s m s' l : List ℕ} {h : List Tick} (t w a : ℕ) → IsTicked s m t w a → AllTicked m h l s' → AllTicked s ((t, w) ∷ h) (a ∷ l) s'

-- the first tick that is over the limit or below the next allowed, by its index; the first of all has the index i
unfoldable pub first_fault : ℕ → ℕ → List ℕ → Result (Unit {0}) Refusal
first_fault i next [] = Ok tt
first_fault i next (t ∷ ts) = pick (dec_le ticks t) (Err (Range i)) (pick (dec_lt t next) (Err (Late i)) (first_fault (i + 1) (t + 1) ts))

-- fed: the ticks were taken one after the other, and the answers beyond theirs are kept
pub record IsFed (s ts ws old s' new : List ℕ) : Type 0 where
  pub even : length ts ≡ length ws
  pub room : length ts ≤ length old
  pub form : InForm s
  pub answers : List ℕ
  pub taken : AllTicked s (paired ts ws) answers s'
  pub words : new ≡ answers ++ drop (length ts) old

-- feeding is refused if ticks and events differ in number; else if the answers are too short; else if the state is not in form; else for a tick
pub data FeedRefused (s ts ws old : List ℕ) (r : Refusal) : Type 0 where
  uneven : (length ts ≡ length ws → ⊥) → r ≡ Record → FeedRefused s ts ws old r
  short : length ts ≡ length ws → length old < length ts → r ≡ Room (length ts) → FeedRefused s ts ws old r
  broken : length ts ≡ length ws → length ts ≤ length old → (InForm s → ⊥) → r ≡ State 0 → FeedRefused s ts ws old r
  faulty : length ts ≡ length ws → length ts ≤ length old → (f : InForm s) → first_fault 0 f.next ts ≡ Err r → FeedRefused s ts ws old r

-- the promise of feeding: the state s and the answers as they were, then as they are
abbrev pub FeedAnswers : List ℕ → List ℕ → List ℕ → List ℕ → List ℕ → List ℕ → Result (Unit {0}) Refusal → Type 0
FeedAnswers s ts ws old s' new (Ok _) = IsFed s ts ws old s' new
FeedAnswers s ts ws old s' new (Err r) = FeedRefused s ts ws old r × (s' ≡ s) × (new ≡ old)
