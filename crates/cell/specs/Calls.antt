-- What the functions on a cell require and promise. Assumes nothing: these are definitions.
use Rattle.std.specs.Prelude.{◌≡◌, Bool, false, cond, List, ◌++◌, ℕ, ◌+◌, ◌%◌, ◌≤◌, leb, eqb, length, take, drop}
use Rattle.rules.specs.declared.Op.{Op}
use Rattle.detector.specs.Choice.{gather}
use Rattle.cell.specs.Words.{span_at, kept_words}
use Rattle.cell.specs.Cell.{cell_words, pairs_of, becomes, cell_answer, cell_after, cell_starts}
use Rattle.cell.specs.Form.{size_fits}
use Rattle.cell.specs.Pairs.{put_span}

-- n words are whole pairs, at least one
pub record Paired (n : ℕ) : Type 0 where
  pub some : 2 ≤ n
  pub even : n % 2 ≡ 0

-- n words are the operator's cell, where its right operand has y possible starts; no cell has more than 126
unfoldable pub is_cell : Op → ℕ → ℕ → Bool
is_cell op y n = cond (eqb n (cell_words op y)) (leb n 126) false

-- a tick may step the cell c of the operator, where ys are y's possible starts
pub record StepReady (op : Op) (ys c : List ℕ) : Type 0 where
  pub few : length ys ≤ 62
  pub words : length c ≡ cell_words op (length ys)

-- the answer is r, and the cell became c'
pub record Stepped (op : Op) (e x y : ℕ) (ys c c' : List ℕ) (r : ℕ) : Type 0 where
  pub answer : r ≡ cell_answer op e x y c
  pub after : c' ≡ cell_after op e x y ys c

-- the operator's cell is stepped; any other words are left as they were, and the answer is 0
pub record StepAnswers (op : Op) (e x y : ℕ) (ys c c' : List ℕ) (r : ℕ) : Type 0 where
  pub answer : r ≡ cond (is_cell op (length ys) (length c)) (cell_answer op e x y c) 0
  pub after : c' ≡ cond (is_cell op (length ys) (length c)) (cell_after op e x y ys c) c

-- the pair at a place became the answer a where that starts strictly later, and r is its start
pub record Renewed (c : List ℕ) (at a e : ℕ) (c' : List ℕ) (r : ℕ) : Type 0 where
  pub start : r ≡ (becomes (span_at c at) a e).start
  pub words : c' ≡ put_span c at (becomes (span_at c at) a e)

-- latest is as it was, and the kept pairs are those gathered
abbrev pub kept_after : List ℕ → List ℕ → List ℕ
kept_after ys c = take 2 c ++ kept_words (length ys) (gather (pairs_of c) ys)

-- the words are a cell of the operator, and its starts have room at a place among those of its operands
unfoldable pub starts_fit : Op → List ℕ → List ℕ → ℕ → Bool
starts_fit op c s at = cond (size_fits op (length c)) (leb (at + length (cell_starts op c)) (length s)) false

-- its starts stand there, the rest is as it was, and r is the place after them
pub record Pushed (op : Op) (c s : List ℕ) (at : ℕ) (s' : List ℕ) (r : ℕ) : Type 0 where
  pub starts : s' ≡ take at s ++ (cell_starts op c ++ drop (at + length (cell_starts op c)) s)
  pub place : r ≡ at + length (cell_starts op c)

-- the starts are put where they fit; else all is as it was, and r is the place itself
pub record PushAnswers (op : Op) (c s : List ℕ) (at : ℕ) (s' : List ℕ) (r : ℕ) : Type 0 where
  pub starts : s' ≡ cond (starts_fit op c s at) (take at s ++ (cell_starts op c ++ drop (at + length (cell_starts op c)) s)) s
  pub place : r ≡ cond (starts_fit op c s at) (at + length (cell_starts op c)) at
