-- What is claimed of the check of a body, over the width of an argument. Assumes nothing: these are definitions.
use Rattle.std.specs.Prelude.{ℕ, ◌+◌, ◌*◌, ◌<◌, ◌≤◌, ◌≡◌, ◌⊎◌, ◌↔◌, List, [], ◌∷◌, ◌++◌, length, take, get_or, Err, Ok}
use Rattle.rules.specs.Limits.{most_entries}
use Rattle.rules.specs.Pattern.{Pattern}
use Rattle.refusal.specs.declared.Refusal.TheVariants.{Size}
use Rattle.refusal.specs.Table.{broken_at}
use Rattle.body.specs.declared.Entry.{Entry}
use Rattle.body.specs.declared.Entry.TheVariants.{Letter, Pair, Within, Wrong}
use Rattle.body.specs.Bytes.{Bytes}
use Rattle.body.specs.Entry.{entries}
use Rattle.body.specs.Postfix.{postfix, encode, Bodied}
use Rattle.body.specs.Check.{check_of}

-- b is the body of the pattern e
pub record BodyOf (width : ℕ) (b : List ℕ) (e : Pattern) : Type 0 where
  pub bodied : Bodied width e
  pub same : b ≡ encode width e

-- a body is accepted exactly if it is the body of a pattern
abbrev pub AcceptedExactly : ℕ → Type 0
AcceptedExactly width = (b : List ℕ) → Bytes b → check_of width b ≡ Ok tt ↔ ((e : Pattern) × BodyOf width b e)

-- and that pattern is unique
abbrev pub OnePattern : ℕ → Type 0
OnePattern width = (b : List ℕ) (e e' : Pattern) → BodyOf width b e → BodyOf width b e' → e ≡ e'

-- the entries of trees one after the other, the last tree first in the list
unfoldable pub forest : List Pattern → List Entry
forest [] = []
forest (e ∷ st) = forest st ++ postfix e

-- the entry breaks a rule after d trees: by itself, or since it lacks an operand
abbrev pub Breaks : Entry → ℕ → Type 0
Breaks (Letter n) d = ⊥
Breaks (Pair op) d = d < 2
Breaks (Within n) d = d < 1
Breaks Wrong d = Unit {0}

-- entry i is the lowest that breaks a rule: those before it make whole trees; past the last entry, several trees are left
pub record Lowest (es : List Entry) (i : ℕ) : Type 0 where
  pub trees : List Pattern
  pub whole : take i es ≡ forest trees
  pub broken : ((i < length es) × Breaks (get_or es i Wrong) (length trees)) ⊎ ((i ≡ length es) × (2 ≤ length trees))

-- n bytes are 1 to 63 entries, with arguments of `width` bytes
pub record Counted (width n : ℕ) : Type 0 where
  pub count : ℕ
  pub full : n ≡ (width + 1) * count
  pub least : 1 ≤ count
  pub most : count ≤ most_entries

-- a refusal names the lowest entry that breaks a rule
abbrev pub RefusedLowest : ℕ → Type 0
RefusedLowest width = (b : List ℕ) (i : ℕ) → check_of width b ≡ Err (broken_at 0 i) → Lowest (entries width b) i

-- and where the length is that of 1 to 63 entries, the lowest entry that breaks a rule is refused
abbrev pub LowestRefused : ℕ → Type 0
LowestRefused width = (b : List ℕ) (i : ℕ) → Counted width (length b) → Lowest (entries width b) i → check_of width b ≡ Err (broken_at 0 i)

-- Size is given exactly if the length is not that of 1 to 63 entries
abbrev pub RefusedSize : ℕ → Type 0
RefusedSize width = (b : List ℕ) → check_of width b ≡ Err Size ↔ (Counted width (length b) → ⊥)

-- a body is sound, or it is refused for its size, or with an entry's index up to the number of its entries
abbrev pub Answered : ℕ → Type 0
Answered width =
    (b : List ℕ)
    → (check_of width b ≡ Ok tt)
    ⊎ (check_of width b ≡ Err Size)
    ⊎ ((i : ℕ) × (i ≤ length (entries width b)) × (check_of width b ≡ Err (broken_at 0 i)))
