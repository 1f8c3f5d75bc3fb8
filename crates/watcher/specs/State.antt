-- The state as words (docs/RULES.md, "Room and state"). Assumes nothing: these are definitions.
use Rattle.std.specs.Prelude.{◌≡◌, List, [], ◌∷◌, ◌++◌, ℕ, ◌+◌, ◌*◌, ◌≤◌, get_or}
use Rattle.rules.specs.declared.Op.TheVariants.{Either, Both, Without, Chain}
use Rattle.rules.specs.Limits.{argument_bytes, ticks}
use Rattle.rules.specs.Pattern.{Pattern, event, pair, within, size}
use Rattle.detector.specs.Memory.{Memory}
use Rattle.detector.specs.Possible.{p}
use Rattle.detector.specs.Form.{Form}
use Rattle.body.specs.declared.Entry.{Entry}
use Rattle.body.specs.declared.Entry.TheVariants.{Letter, Pair, Within, Wrong}
use Rattle.body.specs.Entry.{op_number}
use Rattle.body.specs.Postfix.{postfix, Bodied}
use Rattle.cell.specs.Words.{span_words, kept_words}
use Rattle.cell.specs.Cell.{cell_words}

-- a state begins with two words, its header: the number of entries, and the next tick allowed
abbrev pub header : ℕ
header = 2

abbrev pub count_of : List ℕ → ℕ
count_of s = get_or s 0 0

abbrev pub next_at : ℕ
next_at = 1

abbrev pub next_of : List ℕ → ℕ
next_of s = get_or s next_at 0

-- an entry as op + 256 times argument
abbrev pub word_of : Entry → ℕ
word_of (Letter n) = 0 + 256 * n
word_of (Pair op) = op_number op
word_of (Within n) = 5 + 256 * n
word_of Wrong = 255

unfoldable pub entry_words : List Entry → List ℕ
entry_words [] = []
entry_words (s ∷ ss) = word_of s ∷ entry_words ss

-- the cells in entry order: of a `+` two pairs (left, right), of a `-` one word, of a `;` one pair (latest) and p(y) kept pairs
unfoldable pub cells : (e : Pattern) → Memory e → List ℕ
cells (event n) m = []
cells (pair Either x y) m = cells x m.0 ++ cells y m.1
cells (pair Both x y) m = cells x m.0 ++ (cells y m.1 ++ (span_words m.2 ++ span_words m.3))
cells (pair Without x y) m = cells x m.0 ++ (cells y m.1 ++ (m.2 ∷ []))
cells (pair Chain x y) m = cells x m.0 ++ (cells y m.1 ++ (span_words m.2 ++ kept_words (p y) m.3))
cells (within x n) m = cells x m

-- the number of entries; the next tick allowed; the entries; then the cells
abbrev pub state_of : (e : Pattern) → ℕ → Memory e → List ℕ
state_of e next m = size e ∷ next ∷ (entry_words (postfix e) ++ cells e m)

-- room = 2 + m + 4 for each `+` + 1 for each `-` + 2(1+p(y)) for each `;`
unfoldable pub cell_room : Pattern → ℕ
cell_room (event n) = 0
cell_room (pair op x y) = cell_room x + cell_room y + cell_words op (p y)
cell_room (within x n) = cell_room x

abbrev pub room_of : Pattern → ℕ
room_of e = header + size e + cell_room e

-- a state in form: the words of a pattern, a next tick and a memory in form, and any words beyond
pub record InForm (s : List ℕ) : Type 0 where
  pub pattern : Pattern
  pub next : ℕ
  pub memory : Memory pattern
  pub beyond : List ℕ
  pub bodied : Bodied argument_bytes pattern
  pub early : next ≤ ticks
  pub form : Form next pattern memory
  pub same : s ≡ state_of pattern next memory ++ beyond
