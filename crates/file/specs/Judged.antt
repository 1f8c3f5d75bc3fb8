-- The table of a file's refusals (docs/RULES.md, "Refusals"): which answer the rules of "Pattern files" call for, for a file and for the parts given to
-- the writer. Assumes nothing: these are definitions.
use Rattle.std.specs.Prelude.{ℕ, zero, suc, ◌*◌, ◌≤◌, ◌<◌, ◌≡◌, true, List, [], length, get_or, drop, Err, Ok, Result}
use Rattle.rules.specs.Limits.{argument_bytes, most_entries, most_patterns}
use Rattle.refusal.specs.declared.Refusal.{Refusal}
use Rattle.refusal.specs.declared.Refusal.TheVariants.{Count, Entry, Size}
use Rattle.refusal.specs.Table.{broken_at}
use Rattle.body.specs.Bytes.{value_at}
use Rattle.body.specs.Check.{check_of as body_check}
use Rattle.file.specs.Contents.{named, below, contents_bytes, bodies_at, name_of, body_at, body_of}
use Rattle.file.specs.Check.{names_in, counts_in}
use Rattle.file.specs.Ready.{Named, Whole}

-- a rule holds for every number below n
abbrev pub AllBelow : ℕ → (ℕ → Type 0) → Type 0
AllBelow n Right = (i : ℕ) → i < n → Right i

-- body number b keeps its rules: the check of a lone body accepts it
abbrev pub BodyRight : List ℕ → List ℕ → ℕ → Type 0
BodyRight counts bodies b = body_check argument_bytes (body_of counts bodies b) ≡ Ok tt

-- which answer is called for, where Counted is the rule on the number of patterns and Right the rule on each entry of the contents:
-- Count if Counted fails; else Entry with the lowest entry that breaks its rule; else Size if the bodies end elsewhere; else Body with the lowest body
-- that breaks its rules, and the entry at which the check of a lone body refuses it, its lowest (crates/body, `RefusedLowest`); else the file is sound
pub data Judged (Counted : Type 0) (Right : ℕ → Type 0) (counts bodies : List ℕ) : Result (Unit {0}) Refusal → Type 0 where
  count : (Counted → ⊥) → Judged Counted Right counts bodies (Err Count)
  entry : {i : ℕ} → Counted → i < length counts → AllBelow i Right → (Right i → ⊥) → Judged Counted Right counts bodies (Err (Entry i))
  size : Counted → AllBelow (length counts) Right → (Whole counts bodies → ⊥) → Judged Counted Right counts bodies (Err Size)
  body : {b e : ℕ} → Counted → AllBelow (length counts) Right → Whole counts bodies → b < length counts → AllBelow b (BodyRight counts bodies)
      → body_check argument_bytes (body_of counts bodies b) ≡ Err (broken_at 0 e) → Judged Counted Right counts bodies (Err (broken_at b e))
  sound : Counted → AllBelow (length counts) Right → Whole counts bodies → AllBelow (length counts) (BodyRight counts bodies)
      → Judged Counted Right counts bodies (Ok tt)

-- the writer is given 1 to 16 patterns, and a name for each
pub record PartsCounted (names counts : List ℕ) : Type 0 where
  pub least : 1 ≤ length counts
  pub most : length counts ≤ most_patterns
  pub named : Named names counts

-- the name before number i; no bytes before the first
abbrev pub name_before : List ℕ → ℕ → List ℕ
name_before names zero = []
name_before names (suc i) = name_of names i

-- an entry keeps its rules: its name is well formed and stands after the name before it, and its body has 1 to 63 entries
pub record EntryRight (before name : List ℕ) (n : ℕ) : Type 0 where
  pub well : named name ≡ true
  pub rises : below before name ≡ true
  pub least : 1 ≤ n
  pub most : n ≤ most_entries

-- the same of entry i of the names and numbers given to the writer
abbrev pub PartRight : List ℕ → List ℕ → ℕ → Type 0
PartRight names counts i = EntryRight (name_before names i) (name_of names i) (get_or counts i 0)

-- a file's count is 1 to 16, and its contents are not cut short
pub record FileCounted (f : List ℕ) : Type 0 where
  pub least : 1 ≤ get_or f 0 0
  pub most : get_or f 0 0 ≤ most_patterns
  pub held : bodies_at (get_or f 0 0) ≤ length f

-- a file from entry i of its contents on
abbrev pub contents_from : List ℕ → ℕ → List ℕ
contents_from f i = drop (contents_bytes * i) (drop 1 f)

-- the names, the numbers of entries and the bodies that a file holds
abbrev pub names_of : List ℕ → List ℕ
names_of f = names_in (drop 1 f) (get_or f 0 0)

abbrev pub counts_of : List ℕ → List ℕ
counts_of f = counts_in (drop 1 f) (get_or f 0 0)

abbrev pub bodies_of : List ℕ → List ℕ
bodies_of f = contents_from f (get_or f 0 0)

-- entry i of a file's contents keeps the same rules, gives the offset where its body begins, and ends with a zero byte
pub record ContentRight (f : List ℕ) (i : ℕ) : Type 0 where
  pub entry : PartRight (names_of f) (counts_of f) i
  pub begins : value_at 2 (contents_from f i) 8 ≡ body_at (counts_of f) i
  pub zeros : get_or (contents_from f i) 11 0 ≡ 0
