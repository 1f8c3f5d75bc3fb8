-- What is claimed of the calls for C: the arguments leave one outcome, in every lent slice, every lent number and the status word. A call whose
-- promise is an equation for each needs no claim. Assumes nothing: these are definitions.
use Rattle.std.specs.Prelude.{◌≡◌, List, ℕ}
use Rattle.body.specs.Bytes.{Bytes}
use Rattle.text.specs.Answer.{ReadingOf, PrintingOf}
use Rattle.file.specs.Write.{Wrote}
use Rattle.plain.specs.Answer.{Answers}
use Rattle.plain.specs.Claim.{Words}
use Rattle.watcher.specs.Answer.{RoomAnswers, OpenAnswers, TickAnswers}
use Rattle.watcher.specs.Feed.{FeedAnswers}
use Rattle.set.specs.Set.{SetAnswers}
use Rattle.set.specs.File.{SetRoomAnswers, SetOpenAnswers}
use Rattle.mws.specs.Status.{Outcome, Told, Done, done, RowLatest}

-- a promise on what a slice holds afterwards and on the answer leaves no choice
abbrev pub Fixed : {A B : Type 0} → (B → A → Type 0) → Type 0
Fixed {A} {B} P = (b b' : B) (a a' : A) → P b a → P b' a' → (b ≡ b') × (a ≡ a')

-- then the call for C has one outcome: what is held afterwards, the number lent and the status word
abbrev pub OneOutcome : Type 1
OneOutcome =
    (A B : Type 0) (view : A → Outcome) (P : B → A → Type 0) → Fixed P
    → (b b' : B) (n n₁ n₂ w₁ w₂ : ℕ) → Told view (P b) n n₁ w₁ → Told view (P b') n n₂ w₂ → (b ≡ b') × (n₁ ≡ n₂) × (w₁ ≡ w₂)

-- the promises behind the calls for C leave no choice; those with two slices are on the pair of what they hold, a room's is on none
pub record CallsFixed : Type 0 where
  pub text_read : (s d : List ℕ) → Fixed (ReadingOf s d)
  pub text_print : (b d : List ℕ) → Fixed (PrintingOf b d)
  pub file_write : (names counts bodies old : List ℕ) → Fixed (Wrote names counts bodies old)
  pub watch_room : (b : List ℕ) → Fixed (λ (u : Unit {0}). RoomAnswers b)
  pub watch_open : (b old : List ℕ) → Fixed (OpenAnswers b old)
  pub watch_tick : (s : List ℕ) (t w : ℕ) → Fixed (λ s'. TickAnswers s s' t w)
  pub watch_feed : (s ts ws old : List ℕ) → Fixed (λ (l : List ℕ × List ℕ). FeedAnswers s ts ws old l.0 l.1)
  pub set_room : (f : List ℕ) → Fixed (λ (u : Unit {0}). SetRoomAnswers f)
  pub set_open : (f old : List ℕ) → Fixed (SetOpenAnswers f old)
  pub set_tick : (count : ℕ) (s old : List ℕ) (t w : ℕ) → Fixed (λ (l : List ℕ × List ℕ). SetAnswers count s old t w l.0 l.1)

-- for a body of bytes, no second rows of 64-bit words and status word meet the promise of the plain evaluator
abbrev pub OnePlain : Type 0
OnePlain =
    (b words old new₁ new₂ : List ℕ) (w₁ w₂ : ℕ) → Bytes b → Words new₁ → Words new₂
    → Done done (Answers b words old new₁) w₁ → Done done (Answers b words old new₂) w₂ → (new₁ ≡ new₂) × (w₁ ≡ w₂)

-- no second number meets the promise of a row's latest start
abbrev pub OneRowLatest : Type 0
OneRowLatest = (row n₁ n₂ : ℕ) → RowLatest row n₁ → RowLatest row n₂ → n₁ ≡ n₂
