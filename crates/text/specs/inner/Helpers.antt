-- What the functions below `read_pattern` and `print_pattern` promise; no public contract cites these.
-- Assumes nothing: these are definitions.
use Rattle.std.specs.Prelude.{◌≡◌, ℕ, ◌+◌, min, ◌<◌, ◌≤◌, List, ◌∷◌, ◌++◌, length, drop, Result, Ok, Err}
use Rattle.rules.specs.declared.Op.{Op}
use Rattle.rules.specs.Limits.{argument_bytes}
use Rattle.rules.specs.Pattern.{Pattern, pair, within, size, Proper}
use Rattle.body.specs.declared.Entry.{Entry}
use Rattle.body.specs.declared.Entry.TheVariants.{Pair, Within}
use Rattle.body.specs.Entry.{entry_bytes, entries_by, entry_at}
use Rattle.body.specs.Postfix.{postfix, encode}
use Rattle.decimal.specs.Before.{Before}
use Rattle.text.specs.Render.{numbers, most_printed, render}
use Rattle.text.specs.inner.Machine.{Frame, first, read_from, shut, want, have, limit}
use Rattle.text.specs.inner.Written.{Written}
use Rattle.text.specs.declared.made.Made.{Made}
use Rattle.text.specs.declared.reader.Number.{Number}

-- a number stands from `at` to `end`
pub record IsValue (s : List ℕ) (at end v : ℕ) : Type 0 where
  pub ahead : at < end
  pub inside : end ≤ length s
  pub small : v < numbers
  pub reads : (x : Pattern) (K : List Frame) → read_from (limit x K) (drop at s) ≡ shut (within x v) K (drop end s)

pub record IsBad (s : List ℕ) (at place : ℕ) : Type 0 where
  pub inside : place ≤ length s
  pub reads : (x : Pattern) (K : List Frame) → read_from (limit x K) (drop at s) ≡ Err (drop place s)

abbrev pub NumberAt : List ℕ → ℕ → Result Number ℕ → Type 0
NumberAt s at (Ok r) = IsValue s at r.end r.value
NumberAt s at (Err place) = IsBad s at place

-- an expression stands from `at` to `end`; after n entries its own are written, and there are m
pub record IsExpression (s : List ℕ) (at n : ℕ) (d d' : List ℕ) (end m : ℕ) : Type 0 where
  pub tree : Pattern
  pub reads : (K : List Frame) → read_from (want K) (drop at s) ≡ read_from (have tree K) (drop end s)
  pub ahead : at < end
  pub inside : end ≤ length s
  pub count : m ≡ n + size tree
  pub few : m + at ≤ n + end
  pub written : Written d d' n (encode argument_bytes tree)

pub record NoExpression (s : List ℕ) (at place : ℕ) : Type 0 where
  pub inside : place ≤ length s
  pub reads : (K : List Frame) → read_from (want K) (drop at s) ≡ Err (drop place s)

abbrev pub ExpressionAt : List ℕ → ℕ → Made → Made → Result ℕ ℕ → Type 0
ExpressionAt s at d d' (Ok end) = IsExpression s at d.entries d.bytes d'.bytes end d'.entries
ExpressionAt s at d d' (Err place) = NoExpression s at place

-- what follows the first operand of a bracket: an operator and an operand, or @ and a number
pub data Rest : Type 0 where
  by : Op → Pattern → Rest
  up_to : ℕ → Rest

abbrev pub join : Pattern → Rest → Pattern
join x (by op y) = pair op x y
join x (up_to n) = within x n

abbrev pub rest_encode : Rest → List ℕ
rest_encode (by op y) = encode argument_bytes y ++ entry_bytes argument_bytes (Pair op)
rest_encode (up_to n) = entry_bytes argument_bytes (Within n)

abbrev pub rest_size : Rest → ℕ
rest_size (by op y) = size y + 1
rest_size (up_to n) = 1

-- the same of a tail, whatever operand stands before it
pub record IsTail (s : List ℕ) (at n : ℕ) (d d' : List ℕ) (end m : ℕ) : Type 0 where
  pub rest : Rest
  pub reads : (x : Pattern) (K : List Frame) → read_from (have x (first ∷ K)) (drop at s) ≡ shut (join x rest) K (drop end s)
  pub ahead : at < end
  pub inside : end ≤ length s
  pub count : m ≡ n + rest_size rest
  pub few : m + at ≤ n + end
  pub written : Written d d' n (rest_encode rest)

pub record NoTail (s : List ℕ) (at place : ℕ) : Type 0 where
  pub inside : place ≤ length s
  pub reads : (x : Pattern) (K : List Frame) → read_from (have x (first ∷ K)) (drop at s) ≡ Err (drop place s)

abbrev pub TailAt : List ℕ → ℕ → Made → Made → Result ℕ ℕ → Type 0
TailAt s at d d' (Ok end) = IsTail s at d.entries d.bytes d'.bytes end d'.entries
TailAt s at d d' (Err place) = NoTail s at place

-- the first k entries of b are others and then those of e
abbrev pub Ends : List ℕ → ℕ → List Entry → Pattern → Type 0
Ends b k others e = entries_by (entry_at argument_bytes b) 0 k ≡ others ++ postfix e

-- they end with those of a proper tree
pub record TreeReady (b : List ℕ) (k : ℕ) : Type 0 where
  pub tree : Pattern
  pub others : List Entry
  pub ends : Ends b k others tree
  pub proper : Proper numbers tree

-- that tree begins at the entry, and its text is written before what was written. Where there is no room for all of it, the room is full
pub record IsTree (d d' : List ℕ) (e : Pattern) (others : List Entry) (entry : ℕ) : Type 0 where
  pub first_entry : entry ≡ length others
  pub text : Before most_printed d d' (render e)
  pub counts : length d' ≡ min most_printed (length d + length (render e))

abbrev pub TreeWritten : List ℕ → ℕ → List ℕ → List ℕ → ℕ → Type 0
TreeWritten b k d d' entry = (others : List Entry) (e : Pattern) → Ends b k others e → IsTree d d' e others entry
