-- The unrestricted rules: which instances a pattern has in a record (docs/RULES.md, "The algebra"). Assumes nothing: these are definitions.
use Rattle.std.specs.Prelude.{◌≡◌, ◌⊎◌, ℕ, suc, ◌-◌, ◌≤◌, ◌<◌, min, max}
use Rattle.rules.specs.declared.Op.{Op}
use Rattle.rules.specs.declared.Op.TheVariants.{Either, Both, Without, Chain}
use Rattle.rules.specs.Bits.{On}
use Rattle.rules.specs.Pattern.{Pattern, event, pair, within}

-- a record: the word of events of each tick
abbrev pub Record : Type 0
Record = ℕ → ℕ

-- a set of instances, by start and end
abbrev pub Instances : Type 1
Instances = ℕ → ℕ → Type 0

-- (t,t) for each tick t with that event
abbrev pub Occurs : Record → ℕ → Instances
Occurs r n s t = (s ≡ t) × On (r t) n

-- `|`: those of x and those of y
-- `+`: (lesser start, greater end) for every instance of x with every one of y
-- `-`: those of x for which no y has start >= x's start and end <= x's end
-- `;`: (x's start, y's end) where x's end < y's start
abbrev pub Rule : Op → Instances → Instances → Instances
Rule Either X Y s t = X s t ⊎ Y s t
Rule Both X Y s t = (s₁ : ℕ) × (t₁ : ℕ) × (s₂ : ℕ) × (t₂ : ℕ) × X s₁ t₁ × Y s₂ t₂ × (s ≡ min s₁ s₂) × (t ≡ max t₁ t₂)
Rule Without X Y s t = X s t × ((s' t' : ℕ) → s ≤ s' → t' ≤ t → Y s' t' → ⊥)
Rule Chain X Y s t = (t₁ : ℕ) × (s₂ : ℕ) × X s t₁ × Y s₂ t × (t₁ < s₂)

-- `@`: those of x with end - start <= n
abbrev pub Short : ℕ → Instances → Instances
Short n X s t = X s t × (t - s ≤ n)

-- the instances of a pattern in a record
abbrev pub Has : Record → Pattern → Instances
Has r (event n) = Occurs r n
Has r (pair op x y) = Rule op (Has r x) (Has r y)
Has r (within x n) = Short n (Has r x)

-- a is start + 1 of the latest start of an instance that ends at t, or 0 if none ends there
pub record Latest (X : Instances) (t a : ℕ) : Type 0 where
  pub bound : (s : ℕ) → X s t → s < a
  pub real : (s : ℕ) → a ≡ suc s → X s t
