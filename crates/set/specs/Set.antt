-- The tick of a set (docs/RULES.md, "Sets"): each state is a part of the slice, beginning where the one before it ends.
-- Assumes nothing: these are definitions.
use Rattle.std.specs.Prelude.{◌≡◌, List, [], ◌∷◌, ◌++◌, ℕ, suc, ◌≤◌, ◌<◌, length, drop, Err, Ok, Result}
use Rattle.rules.specs.Limits.{most_patterns, ticks}
use Rattle.refusal.specs.declared.Refusal.{Refusal}
use Rattle.refusal.specs.declared.Refusal.TheVariants.{Count, Room, State, Range, Late}
use Rattle.watcher.specs.State.{InForm}
use Rattle.watcher.specs.Answer.{IsTicked}

-- the words beyond n states in form whose next ticks are at most τ; no next tick is over `ticks`
pub data Past (τ : ℕ) : ℕ → List ℕ → List ℕ → Type 0 where
  none : {s : List ℕ} → Past τ 0 s s
  more : {n : ℕ} {s r : List ℕ} → Past τ n s r → (f : InForm r) → f.next ≤ τ → Past τ (suc n) s f.beyond

-- the lowest state that is not in form; else, where all n are, the lowest whose next tick is above t
pub data Fault (n : ℕ) (s : List ℕ) (t : ℕ) (r : Refusal) : Type 0 where
  broken : (k : ℕ) (l : List ℕ) → k < n → Past ticks k s l → (InForm l → ⊥) → r ≡ State k → Fault n s t r
  below : (k : ℕ) (l b : List ℕ) → k < n → Past ticks n s b → Past t k s l → (f : InForm l) → t < f.next → r ≡ Late k → Fault n s t r

-- n states at a tick, each as it takes the tick alone, without words beyond it: s becomes s', with the answers; the words beyond the last are kept
pub data SetTicked (t w : ℕ) : ℕ → List ℕ → List ℕ → List ℕ → Type 0 where
  none : {s : List ℕ} → SetTicked t w 0 s s []
  more : {n a : ℕ} {p p' r r' l s s' : List ℕ} → (i : IsTicked p p' t w a) → i.form.beyond ≡ [] → SetTicked t w n r r' l
      → s ≡ p ++ r → s' ≡ p' ++ r' → SetTicked t w (suc n) s s' (a ∷ l)

-- a set may run 1 to 16 patterns
abbrev pub Few : ℕ → Type 0
Few count = (1 ≤ count) × (count ≤ most_patterns)

-- a set's tick is accepted: each state takes it, and the answers beyond theirs are kept
pub record IsSetTicked (count : ℕ) (s old : List ℕ) (t w : ℕ) (s' new : List ℕ) : Type 0 where
  pub few : Few count
  pub room : count ≤ length old
  pub range : t < ticks
  pub answers : List ℕ
  pub taken : SetTicked t w count s s' answers
  pub words : new ≡ answers ++ drop count old

-- it is refused for the number of states; else for the room of the answers; else if it is over the limit; else for a state
pub data SetRefused (count : ℕ) (s old : List ℕ) (t : ℕ) (r : Refusal) : Type 0 where
  many : (Few count → ⊥) → r ≡ Count → SetRefused count s old t r
  short : Few count → length old < count → r ≡ Room count → SetRefused count s old t r
  over : Few count → count ≤ length old → ticks ≤ t → r ≡ Range 0 → SetRefused count s old t r
  fault : Few count → count ≤ length old → t < ticks → Fault count s t r → SetRefused count s old t r

-- the promise of a set's tick: the states s and the answers as they were, then as they are
abbrev pub SetAnswers : ℕ → List ℕ → List ℕ → ℕ → ℕ → List ℕ → List ℕ → Result (Unit {0}) Refusal → Type 0
SetAnswers count s old t w s' new (Ok _) = IsSetTicked count s old t w s' new
SetAnswers count s old t w s' new (Err r) = SetRefused count s old t r × (s' ≡ s) × (new ≡ old)
