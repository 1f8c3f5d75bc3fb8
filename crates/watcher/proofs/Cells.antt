-- The cells of an operator's tree are its operands' and then its own, which has as many words as its entry says. Assumes nothing.
use Prim.Native.Nat.{ℕ, ◌*◌, ◌+◌, ◌≤◌}
use mathlib.Core.Path.{◌≡◌, refl, ap, ◌∙◌}
use mathlib.Core.List.{List, [], ◌∷◌, ◌++◌, append_assoc, append-nil}
use native.Mathlib.Omega.{arith}
use lib.ListN.{length, length-append}
use Rattle.rules.specs.declared.Op.{Op}
use Rattle.rules.specs.declared.Op.TheVariants.{Either, Both, Without, Chain}
use Rattle.rules.specs.Limits.{most_entries}
use Rattle.rules.specs.Pattern.{Pattern, event, pair, within, size}
use Rattle.detector.specs.Memory.{Memory}
use Rattle.detector.specs.Possible.{p}
use Rattle.detector.specs.Form.{Form}
use Rattle.detector.proofs.Form.{p_size}
use Rattle.cell.specs.Words.{span_words, kept_words}
use Rattle.cell.specs.Cell.{cell_words, possible}
use Rattle.cell.proofs.WordLaws.{length_kept_words}
use Rattle.watcher.specs.State.{cells, cell_room, room_of}

-- the operands' memories
abbrev pub left : (op : Op) (x y : Pattern) → Memory (pair op x y) → Memory x
left Either x y m = m.0
left Both x y m = m.0
left Without x y m = m.0
left Chain x y m = m.0

abbrev pub right : (op : Op) (x y : Pattern) → Memory (pair op x y) → Memory y
right Either x y m = m.1
right Both x y m = m.1
right Without x y m = m.1
right Chain x y m = m.1

-- the words of an operator's own cell
abbrev pub own : (op : Op) (x y : Pattern) → Memory (pair op x y) → List ℕ
own Either x y m = []
own Both x y m = span_words m.2 ++ span_words m.3
own Without x y m = m.2 ∷ []
own Chain x y m = span_words m.2 ++ kept_words (p y) m.3

pub cells_pair : (op : Op) (x y : Pattern) (m : Memory (pair op x y))
    → cells (pair op x y) m ≡ cells x (left op x y m) ++ (cells y (right op x y m) ++ own op x y m)
unfolding cells
cells_pair Either x y m = rw (append-nil (cells y m.1))
cells_pair Both x y m = refl
cells_pair Without x y m = refl
cells_pair Chain x y m = refl

-- with words after them
pub cells_ahead : (op : Op) (x y : Pattern) (m : Memory (pair op x y)) (rest : List ℕ)
    → cells (pair op x y) m ++ rest ≡ cells x (left op x y m) ++ (cells y (right op x y m) ++ (own op x y m ++ rest))
cells_ahead op x y m rest = rw (cells_pair op x y m) (simp append_assoc)

pub form_left : (τ : ℕ) (op : Op) (x y : Pattern) (m : Memory (pair op x y)) → Form τ (pair op x y) m → Form τ x (left op x y m)
form_left τ Either x y m f = f.0
form_left τ Both x y m f = f.0
form_left τ Without x y m f = f.0
form_left τ Chain x y m f = f.0

pub form_right : (τ : ℕ) (op : Op) (x y : Pattern) (m : Memory (pair op x y)) → Form τ (pair op x y) m → Form τ y (right op x y m)
form_right τ Either x y m f = f.1
form_right τ Both x y m f = f.1
form_right τ Without x y m f = f.1
form_right τ Chain x y m f = f.1

pub length_own : (op : Op) (x y : Pattern) (m : Memory (pair op x y)) → length (own op x y m) ≡ cell_words op (p y)
unfolding cell_words
length_own Either x y m = refl
length_own Both x y m = refl
length_own Without x y m = refl
length_own Chain x y m = omega (arith, length_kept_words (p y) m.3)

pub possible_p : (op : Op) (x y : Pattern) → possible op (p x) (p y) ≡ p (pair op x y)
unfolding possible p
possible_p Either x y = refl
possible_p Both x y = refl
possible_p Without x y = refl
possible_p Chain x y = refl

-- so the cells have the words of the formula
pub length_cells : (e : Pattern) (m : Memory e) → length (cells e m) ≡ cell_room e
unfolding cells cell_room
length_cells (event n) m = refl
length_cells (pair op x y) m =
    let l : Memory x = left op x y m in
    let r : Memory y = right op x y m in
    ap length (cells_pair op x y m)
    ∙ omega (
      arith,
      length-append (cells x l) (cells y r ++ own op x y m),
      length-append (cells y r) (own op x y m),
      length_cells x l,
      length_cells y r,
      length_own op x y m,
    )
length_cells (within x n) m = length_cells x m

-- and they are few
pub words_le : (op : Op) (y : ℕ) → cell_words op y ≤ 2 * y + 4
unfolding cell_words
words_le Either y = omega arith
words_le Both y = omega arith
words_le Without y = omega arith
words_le Chain y = omega arith

cells_small : (e : Pattern) → size e ≤ most_entries → cell_room e ≤ 126 * size e
unfolding cell_room size
cells_small (event n) h = omega arith
cells_small (pair op x y) h = omega (arith, cells_small x (omega arith), cells_small y (omega arith), words_le op (p y), p_size y)
cells_small (within x n) h = omega (arith, cells_small x (omega arith))

pub room_small : (e : Pattern) → size e ≤ most_entries → room_of e ≤ 8003
room_small e h = omega (arith, cells_small e h)
