-- What is claimed of the plain evaluator: its rows show just the instances of the rules (docs/RULES.md, "The algebra", "The plain evaluator").
-- Assumes nothing: these are definitions.
use Rattle.std.specs.Prelude.{◌≡◌, ◌↔◌, List, [], ◌∷◌, ◌++◌, ℕ, suc, pred, ◌^◌, ◌<◌, get_or, length, Option, Result, Some, None, Ok}
use Rattle.refusal.specs.declared.Refusal.{Refusal}
use Rattle.rules.specs.Bits.{ones_below}
use Rattle.rules.specs.Limits.{argument_bytes}
use Rattle.rules.specs.Lists.{In}
use Rattle.rules.specs.Pattern.{Pattern, event, size}
use Rattle.rules.specs.Instances.{Has, Latest}
use Rattle.rules.specs.History.{Tick}
use Rattle.detector.specs.Step.{answer}
use Rattle.detector.specs.Run.{run}
use Rattle.body.specs.Bytes.{Bytes}
use Rattle.body.specs.Claim.{BodyOf}
use Rattle.plain.specs.Row.{IsLatest}
use Rattle.plain.specs.Rows.{Shown, rows_of, worded, parts}
use Rattle.plain.specs.Answer.{Answers}

-- after an accepted evaluation, bit s of row e of entry k is set exactly if the rules of that entry's pattern have the instance
abbrev pub ShownExactly : Type 0
ShownExactly =
    (b words old new : List ℕ) (e : Pattern) → BodyOf argument_bytes b e → Answers b words old new (Ok tt)
    → (k : ℕ) → k < length (parts e) → (s t : ℕ) → Shown (rows_of new k) s t ↔ Has (worded words) (get_or (parts e) k (event 0)) s t

-- the words of a slice are below 2 ^ 64
abbrev pub Words : List ℕ → Type 0
Words l = (i : ℕ) → get_or l i 0 < 2 ^ 64

-- only one answer and one slice meet the promise
abbrev pub OneAnswer : Type 0
OneAnswer =
    (b words old new new' : List ℕ) (a a' : Result (Unit {0}) Refusal) → Bytes b → Words new → Words new'
    → Answers b words old new a → Answers b words old new' a' → (a ≡ a') × (new ≡ new')

-- start + 1, or 0 for none
abbrev pub start_number : Option ℕ → ℕ
start_number None = 0
start_number (Some s) = suc s

-- a row has only one latest start, so `latest_start` has only one answer
abbrev pub OneStart : Type 0
OneStart = (row : ℕ) (start start' : Option ℕ) → IsLatest row start → IsLatest row start' → start ≡ start'

-- the latest start of row t of an entry is that of the instances of its pattern that end at t
abbrev pub LatestOfRow : Type 0
LatestOfRow =
    (b words old new : List ℕ) (e : Pattern) → BodyOf argument_bytes b e → Answers b words old new (Ok tt)
    → (k : ℕ) → k < length (parts e) → (t : ℕ) (start : Option ℕ) → IsLatest (get_or (rows_of new k) t 0) start
    → Latest (Has (worded words) (get_or (parts e) k (event 0))) t (start_number start)

-- no number stands in the list twice
abbrev pub Distinct : List ℕ → Type 0
Distinct [] = Unit {0}
Distinct (s ∷ l) = (In s l → ⊥) × Distinct l

-- P holds of just n numbers: those of a list of n in which none stands twice
pub record Count (P : ℕ → Type 0) (n : ℕ) : Type 0 where
  pub those : List ℕ
  pub distinct : Distinct those
  pub exactly : (s : ℕ) → In s those ↔ P s
  pub many : length those ≡ n

-- the ones of row t of an entry, which `instances` counts, are as many as the instances of its pattern that end at t
abbrev pub CountsInstances : Type 0
CountsInstances =
    (b words old new : List ℕ) (e : Pattern) → BodyOf argument_bytes b e → Answers b words old new (Ok tt)
    → (k : ℕ) → k < length (parts e) → (t : ℕ)
    → Count (λ s. Has (worded words) (get_or (parts e) k (event 0)) s t) (ones_below 64 (get_or (rows_of new k) t 0))

-- the words as a history of ticks i, i + 1, i + 2 ..
unfoldable pub history_from : ℕ → List ℕ → List Tick
history_from i [] = []
history_from i (w ∷ words) = (i, w) ∷ history_from (suc i) words

-- the evaluator and the detector agree: at each tick of the record the latest start of the whole pattern's row is the detector's answer
abbrev pub AgreesWithDetector : Type 0
AgreesWithDetector =
    (b old new : List ℕ) (e : Pattern) (before after : List ℕ) (w : ℕ) → BodyOf argument_bytes b e
    → Answers b (before ++ (w ∷ after)) old new (Ok tt)
    → (start : Option ℕ) → IsLatest (get_or (rows_of new (pred (size e))) (length before) 0) start
    → start_number start ≡ answer e (run e (history_from 0 before)) (length before) w
