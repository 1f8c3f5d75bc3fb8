-- What the writer answers, and its slice afterwards: refusals 4, 5, 6, 7, then 8 (docs/RULES.md, "Pattern files" and "Refusals").
-- Assumes nothing: these are definitions.
use Rattle.std.specs.Prelude.{ℕ, ◌≡◌, cond, List, ◌++◌, leb, length, drop, Err, Ok, Result}
use Rattle.refusal.specs.declared.Refusal.{Refusal}
use Rattle.refusal.specs.declared.Refusal.TheVariants.{Room}
use Rattle.body.specs.Check.{on_check}
use Rattle.file.specs.Contents.{file_of}
use Rattle.file.specs.Check.{parts_check}

-- the number of bytes written, or Room with the length needed
abbrev pub in_room : ℕ → ℕ → Result ℕ Refusal
in_room needed room = cond (leb needed room) (Ok needed) (Err (Room needed))

-- the answer: the refusal of the parts, then Room with the length needed, else the number of bytes written
unfoldable pub writing_of : List ℕ → List ℕ → List ℕ → ℕ → Result ℕ Refusal
writing_of names counts bodies room = on_check (parts_check names counts bodies) Err (in_room (length (file_of names counts bodies)) room)

-- the slice afterwards: the file and then what stood there before, or, after a refusal, all as it was
abbrev pub after : Result ℕ Refusal → List ℕ → List ℕ → List ℕ
after (Ok n) file old = file ++ drop n old
after (Err r) file old = old

-- what the writer promises
pub record Wrote (names counts bodies old new : List ℕ) (r : Result ℕ Refusal) : Type 0 where
  pub answer : r ≡ writing_of names counts bodies (length old)
  pub later : new ≡ after r (file_of names counts bodies) old
