-- Reading a text a byte at a time, for the proof of the reader; no public contract cites it. What has been read so far is a state, and a byte
-- either leads on to another state or cannot follow. Assumes nothing: these are definitions.
use Rattle.std.specs.Prelude.{ℕ, ◌+◌, ◌*◌, cond, List, [], ◌∷◌, ◌==◌, nat_lt, Option, Some, None, Result, Ok, Err}
use Rattle.rules.specs.declared.Op.{Op}
use Rattle.rules.specs.declared.Op.TheVariants.{Either, Both, Without, Chain}
use Rattle.std.specs.Option.{option_map, option_and_then, option_map_or}
use Rattle.rules.specs.Pattern.{Pattern, event, pair, within}
use Rattle.text.specs.Render.{numbers}
use Rattle.text.specs.Characters.{letter_of, digit_of}
use Rattle.text.specs.declared.reader.Sign.{Sign}
use Rattle.text.specs.declared.reader.Sign.TheVariants.{Operator, Limit}

-- where an expression stands: first in a bracket, or second, after an operand and an operator
pub data Frame : Type 0 where
  first : Frame
  second : Op → Pattern → Frame

-- an expression is to come; one has been read; x and @ have been read; x, @ and the number v have been read
pub data State : Type 0 where
  want : List Frame → State
  have : Pattern → List Frame → State
  limit : Pattern → List Frame → State
  number : Pattern → ℕ → List Frame → State

-- what may follow the first operand: an operator, @, and no other byte
unfoldable pub sign_of : ℕ → Option Sign
sign_of c =
    cond (c == 124) (Some (Operator Either))
    (cond (c == 43) (Some (Operator Both))
    (cond (c == 45) (Some (Operator Without))
    (cond (c == 59) (Some (Operator Chain))
    (cond (c == 64) (Some Limit) None))))

-- the number v and then the digit c: no number but 0 begins with 0, and none is out of range
unfoldable pub grown : ℕ → ℕ → Option ℕ
grown v c = option_and_then (λ d. cond (nat_lt 0 v) (cond (nat_lt (v * 10 + d) numbers) (Some (v * 10 + d)) None) None) (digit_of c)

-- the state after what may follow the first operand x
abbrev pub after_sign : Pattern → List Frame → Option Sign → Option State
after_sign x K (Some (Operator op)) = Some (want (second op x ∷ K))
after_sign x K (Some Limit) = Some (limit x K)
after_sign x K None = None

-- the state after a byte, if the byte can follow
abbrev pub step : State → ℕ → Option State
step (want K) c = option_map_or (λ n. Some (have (event n) K)) (letter_of c) (cond (c == 40) (Some (want (first ∷ K))) None)
step (have e []) c = None
step (have x (first ∷ K)) c = after_sign x K (sign_of c)
step (have y (second op x ∷ K)) c = cond (c == 41) (Some (have (pair op x y) K)) None
step (limit x K) c = option_map (λ d. number x d K) (digit_of c)
step (number x v K) c = option_map_or (λ w. Some (number x w K)) (grown v c) (cond (c == 41) (Some (have (within x v) K)) None)

-- what a text that ends in a state comes to: a whole expression, or what is left of it where it stopped being the start of one
abbrev pub ended : State → Result Pattern (List ℕ)
ended (want K) = Err []
ended (have e []) = Ok e
ended (have e (f ∷ K)) = Err []
ended (limit x K) = Err []
ended (number x v K) = Err []

-- how the reading goes on, or where it stops
abbrev pub follow : Option State → (State → Result Pattern (List ℕ)) → List ℕ → Result Pattern (List ℕ)
follow o f s = option_map_or f o (Err s)

-- a text read from a state on
unfoldable pub read_from : State → List ℕ → Result Pattern (List ℕ)
read_from σ [] = ended σ
read_from σ (c ∷ s) = follow (step σ c) (λ τ. read_from τ s) (c ∷ s)

-- ')' and what follows it, where the bracket's expression is e
unfoldable pub shut : Pattern → List Frame → List ℕ → Result Pattern (List ℕ)
shut e K [] = Err []
shut e K (c ∷ s) = cond (c == 41) (read_from (have e K) s) (Err (c ∷ s))
