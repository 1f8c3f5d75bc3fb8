-- What evaluating answers, and the rows afterwards (docs/RULES.md, "The plain evaluator", "Refusals": 6, 7, 12, 8).
-- Assumes nothing: these are definitions.
use Rattle.std.specs.Prelude.{◌≡◌, cond, List, ℕ, ◌+◌, ◌*◌, ◌/◌, ◌≤◌, ltb, length, Result, Ok, Err}
use Rattle.refusal.specs.declared.Refusal.{Refusal}
use Rattle.rules.specs.Limits.{argument_bytes, most_words}
use Rattle.rules.specs.Pattern.{Pattern}
use Rattle.refusal.specs.declared.Refusal.TheVariants.{Room, Record}
use Rattle.body.specs.Check.{on_check, check_of}
use Rattle.body.specs.Claim.{BodyOf}
use Rattle.plain.specs.Rows.{Written, parts, worded}

-- the rows that a body needs: 64 for each entry
abbrev pub rows_needed : List ℕ → ℕ
rows_needed b = length b / (argument_bytes + 1) * most_words

-- the body's refusal, if it has one, goes first
-- the answer: the body's refusal, then Record, then Room with the rows needed
unfoldable pub evaluation_of : List ℕ → ℕ → ℕ → Result (Unit {0}) Refusal
evaluation_of b words room =
    on_check (check_of argument_bytes b) Err
    (cond (ltb most_words words) (Err Record) (cond (ltb room (rows_needed b)) (Err (Room (rows_needed b))) (Ok tt)))

-- the rows afterwards: each entry's rows show its instances, or a refusal changes nothing
abbrev pub RowsAfter : List ℕ → List ℕ → List ℕ → List ℕ → Result (Unit {0}) Refusal → Type 0
RowsAfter b words old new (Ok _) = (e : Pattern) → BodyOf argument_bytes b e → Written (worded words) (parts e) old new
RowsAfter b words old new (Err r) = new ≡ old

-- the promise of `evaluate`
pub record Answers (b words old new : List ℕ) (answer : Result (Unit {0}) Refusal) : Type 0 where
  pub answered : answer ≡ evaluation_of b (length words) (length old)
  pub rows : RowsAfter b words old new answer

-- what `fill_rows` needs: a sound body, a record that is not too long, and enough rows
pub record Ready (b words rows : List ℕ) : Type 0 where
  pub sound : check_of argument_bytes b ≡ Ok tt
  pub short : length words ≤ most_words
  pub room : rows_needed b ≤ length rows
