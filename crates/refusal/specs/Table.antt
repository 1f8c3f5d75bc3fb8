-- The table of refusals (docs/RULES.md, "Refusals"): each one's number, its place, and the entry that refusal 7 names besides; and the status word
-- for C. Assumes nothing: these are definitions.
use Rattle.std.specs.Prelude.{ℕ, ◌+◌, ◌-◌, ◌*◌, ◌^◌, min}
use Rattle.refusal.specs.declared.Refusal.{Refusal}
use Rattle.refusal.specs.declared.Refusal.TheVariants.{Long, Syntax, Many, Count, Entry, Size, Body, Room, State, Range, Late, Record, Full, Line, Absent}

-- a row of the table
pub record Row : Type 0 where
  pub number : ℕ
  pub place : ℕ
  pub entry : ℕ

-- a refusal at a place
abbrev pub at : ℕ → ℕ → Row
at number place = record { number = number; place = place; entry = 0 }

-- the table: the place is 0 where none is named, and only `Body` names an entry besides
abbrev pub row_of : Refusal → Row
row_of Long = at 1 0
row_of (Syntax bytes) = at 2 bytes
row_of Many = at 3 0
row_of Count = at 4 0
row_of (Entry index) = at 5 index
row_of Size = at 6 0
row_of (Body fault) = record { number = 7; place = fault.body; entry = fault.entry }
row_of (Room needed) = at 8 needed
row_of (State index) = at 9 index
row_of (Range index) = at 10 index
row_of (Late index) = at 11 index
row_of Record = at 12 0
row_of Full = at 13 0
row_of Line = at 14 0
row_of Absent = at 15 0

abbrev pub number_of : Refusal → ℕ
number_of r = (row_of r).number

abbrev pub place_of : Refusal → ℕ
place_of r = (row_of r).place

abbrev pub entry_named : Refusal → ℕ
entry_named r = (row_of r).entry

-- the refusal of an entry of a body
abbrev pub broken_at : ℕ → ℕ → Refusal
broken_at body entry = Body (record { body = body; entry = entry })

-- the largest place and the largest entry that fit the status word
abbrev pub most_place : ℕ
most_place = 2 ^ 32 - 1

abbrev pub most_entry : ℕ
most_entry = 2 ^ 8 - 1

-- the status word: the number in bits 0-7, the place in bits 8-39, the entry in bits 40-47; what does not fit is the largest that does
unfoldable pub packed_of : Refusal → ℕ
packed_of r = number_of r + 2 ^ 8 * min (place_of r) most_place + 2 ^ 40 * min (entry_named r) most_entry
