-- What the functions of a tick promise each other; no public call cites these. Assumes nothing: these are definitions.
use Rattle.std.specs.Prelude.{◌≡◌, true, Ok, List, [], ◌∷◌, ◌++◌, ℕ, zero, suc, ◌+◌, ◌-◌, ◌*◌, ◌≤◌, ◌<◌, length, get_or, take, drop, set}
use Rattle.rules.specs.declared.Op.{Op}
use Rattle.rules.specs.declared.Op.TheVariants.{Either, Both, Without, Chain}
use Rattle.rules.specs.Limits.{ticks}
use Rattle.cell.specs.Cell.{cell_words, possible, cell_answer, cell_after, starts_after}
use Rattle.watcher.specs.State.{next_of}
use Rattle.watcher.specs.inner.Walk.{Value, within_answer, formed, answer_of, words_after, answers_fed, words_fed}
use Rattle.watcher.specs.Feed.{paired, first_fault}

-- a state may take a tick
pub record StepsReady (s : List ℕ) (t : ℕ) : Type 0 where
  pub form : formed s ≡ true
  pub late : next_of s ≤ t
  pub range : t < ticks

-- it took it, with the answer r
pub record StepsDone (s : List ℕ) (t w : ℕ) (s' : List ℕ) (r : ℕ) : Type 0 where
  pub answer : r ≡ answer_of t w s
  pub words : s' ≡ words_after t w s

-- a state may take ticks, one after the other
pub record FeedReady (s ts ws old : List ℕ) : Type 0 where
  pub form : formed s ≡ true
  pub even : length ts ≡ length ws
  pub room : length ts ≤ length old
  pub sound : first_fault 0 (next_of s) ts ≡ Ok tt

-- it took them
pub record FeedDone (s ts ws old s' new : List ℕ) : Type 0 where
  pub words : s' ≡ words_fed (paired ts ws) s
  pub answers : new ≡ answers_fed (paired ts ws) s ++ drop (length ts) old

-- the possible starts at place k of the stack: from its base up to the next place's
abbrev pub segment : List ℕ → List ℕ → ℕ → List ℕ
segment base starts k = take (get_or base (k + 1) 0 - get_or base k 0) (drop (get_or base k 0) starts)

-- words written over those from a place on
abbrev pub over : ℕ → List ℕ → List ℕ → List ℕ
over at c s = take at s ++ (c ++ drop (at + length c) s)

-- where an operator puts its cell's starts: after those of its right operand, from b up to the top, or over them
unfoldable pub own_from : Op → ℕ → ℕ → ℕ
own_from Either b top = top
own_from Both b top = top
own_from Without b top = b
own_from Chain b top = b

-- d places are in use, of so many; and there is room for so many possible starts
pub record Laid (deep many : ℕ) (answers base starts : List ℕ) (d : ℕ) : Type 0 where
  pub answers_long : length answers ≡ deep
  pub base_long : length base ≡ deep + 1
  pub starts_long : length starts ≡ many
  pub most : many ≤ 62
  pub low : d ≤ deep
  pub first : get_or base 0 0 ≡ 0
  pub rises : (k : ℕ) → k < d → get_or base k 0 ≤ get_or base (k + 1) 0
  pub few : get_or base d 0 ≤ many

-- what stands at a place: an answer, and its possible starts
abbrev pub value_at : List ℕ → List ℕ → List ℕ → ℕ → Value
value_at answers base starts k = (get_or answers k 0, segment base starts k)

-- what f has at the d lowest places, the last one first
unfoldable pub stack_by : {X : Type 0} → (ℕ → X) → ℕ → List X
stack_by f zero = []
stack_by f (suc d) = f d ∷ stack_by f d

-- what stands at the d lowest places
abbrev pub values : List ℕ → List ℕ → List ℕ → ℕ → List Value
values answers base starts d = stack_by (value_at answers base starts) d

-- a stack: for how many answers and possible starts it has room, and the answers with their possible starts, the last one first
pub record Stacked : Type 0 where
  pub deep : ℕ
  pub many : ℕ
  pub values : List Value

-- the stack that lies in arrays, of which d places are in use
abbrev pub stack_view : List ℕ → List ℕ → List ℕ → ℕ → Stacked
stack_view answers base starts d = record { deep = length answers; many = length starts; values = values answers base starts d }

-- arrays hold a stack with as much room as they have
abbrev pub IsStack : List ℕ → List ℕ → List ℕ → ℕ → Type 0
IsStack answers base starts d = Laid (length answers) (length starts) answers base starts d

-- no answer
abbrev pub empty_stack : ℕ → ℕ → Stacked
empty_stack deep many = record { deep = deep; many = many; values = [] }

-- the same room, with other answers
abbrev pub holding : Stacked → List Value → Stacked
holding s st = record { deep = s.deep; many = s.many; values = st }

-- the arrays of a stack for n entries: it is never deeper than (n + 1) / 2, and has fewer possible starts than n
pub record StackFor (n : ℕ) (answers base starts : List ℕ) : Type 0 where
  pub deep : n < 2 * length answers
  pub based : length base ≡ length answers + 1
  pub many : n ≤ length starts + 1
  pub most : length starts ≤ 62

-- the possible starts on a stack, all together
unfoldable pub starts_on : List Value → ℕ
starts_on [] = 0
starts_on (v ∷ st) = length v.1 + starts_on st

-- the last answer restricted
abbrev pub restricted : ℕ → ℕ → List Value → List Value
restricted t n [] = []
restricted t n (v ∷ st) = (within_answer t n v.0, v.1) ∷ st

-- an operator on x and y may be stepped at t, with room for so many possible starts, and its cell at a place
pub record PairFits (many : ℕ) (op : Op) (s : List ℕ) (y x : Value) (st : List Value) (at t : ℕ) : Type 0 where
  pub range : t < ticks
  pub cell : at + cell_words op (length y.1) ≤ length s
  pub room : starts_on (x ∷ st) + possible op 0 (length y.1) ≤ many

-- the same of the two last trees on a stack
abbrev pub PairReady : ℕ → Op → List ℕ → List Value → ℕ → ℕ → Type 0
PairReady many op s [] at t = Unit {0}
PairReady many op s (y ∷ []) at t = Unit {0}
PairReady many op s (y ∷ x ∷ st) at t = PairFits many op s y x st at t

-- it was stepped, where c is the cell as it was: its answer and its starts stand in place of the operands', the cell is as it becomes, and r is
-- the place after it
pub record PairStepped (op : Op) (t at : ℕ) (s : List ℕ) (y x : Value) (st : List Value) (c s' : List ℕ) (st' : List Value) (r : ℕ) : Type 0 where
  pub place : r ≡ at + cell_words op (length y.1)
  pub words : s' ≡ over at (cell_after op (t + 1) x.0 y.0 y.1 c) s
  pub stack : st' ≡ (cell_answer op (t + 1) x.0 y.0 c, starts_after op x.1 y.1 (cell_after op (t + 1) x.0 y.0 y.1 c)) ∷ st

-- the same of the two last trees on a stack, with the cell as it stood
abbrev pub PairDone : Op → ℕ → ℕ → List ℕ → List Value → List ℕ → List Value → ℕ → Type 0
PairDone op t at s [] s' st' r = Unit {0}
PairDone op t at s (y ∷ []) s' st' r = Unit {0}
PairDone op t at s (y ∷ x ∷ st) s' st' r = PairStepped op t at s y x st (take (cell_words op (length y.1)) (drop at s)) s' st' r

-- an operator may be stepped at t, in the arrays: its right operand stands at place d of the stack, its left one below, and its cell at a place
pub record Placed (op : Op) (s answers base starts : List ℕ) (d at t : ℕ) : Type 0 where
  pub range : t < ticks
  pub two : 1 ≤ d
  pub answers_long : d < length answers
  pub base_long : d + 1 < length base
  pub starts_long : length starts ≤ 62
  pub rises : get_or base d 0 ≤ get_or base (d + 1) 0
  pub few : get_or base (d + 1) 0 ≤ length starts
  pub cell : at + cell_words op (get_or base (d + 1) 0 - get_or base d 0) ≤ length s
  pub room : get_or base d 0 + possible op 0 (get_or base (d + 1) 0 - get_or base d 0) ≤ length starts

-- it was stepped, where x and y are the operands' answers, ys the right one's possible starts, and c the cell as it was
pub record Replaced (op : Op) (t x y : ℕ) (ys c s answers base starts : List ℕ) (d at : ℕ) (s' answers' base' starts' : List ℕ) (r : ℕ) : Type 0 where
  pub place : r ≡ at + cell_words op (length ys)
  pub words : s' ≡ over at (cell_after op (t + 1) x y ys c) s
  pub answered : answers' ≡ set answers (d - 1) (cell_answer op (t + 1) x y c)
  pub based : base' ≡ set base d (get_or base d 0 + length (starts_after op [] ys (cell_after op (t + 1) x y ys c)))
  pub started : starts' ≡ over (get_or base d 0) (starts_after op [] ys (cell_after op (t + 1) x y ys c)) starts

-- the same of what stands in the arrays
abbrev pub Replaces : Op → List ℕ → List ℕ → List ℕ → List ℕ → ℕ → ℕ → ℕ → List ℕ → List ℕ → List ℕ → List ℕ → ℕ → Type 0
Replaces op s answers base starts d at t s' answers' base' starts' r =
    Replaced op t (get_or answers (d - 1) 0) (get_or answers d 0) (segment base starts d)
    (take (cell_words op (length (segment base starts d))) (drop at s)) s answers base starts d at s' answers' base' starts' r
