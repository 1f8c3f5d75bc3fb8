-- What is claimed of the tally: it is the count and the sum over the windows added. Assumes nothing: these are definitions.
use Rattle.std.specs.Prelude.{Ok, ◌≡◌, List, [], ◌∷◌, ℕ, ◌+◌, ◌-◌, length}
use Rattle.tally.specs.declared.Tally.{Tally}
use Rattle.tally.specs.Tallied.{added_to}

-- a window by its start and end
abbrev pub Window : Type 0
Window = ℕ × ℕ

-- the sum of end - start + 1 over windows
unfoldable pub span : List Window → ℕ
span [] = 0
span (w ∷ l) = (w.1 - w.0 + 1) + span l

-- windows added one after the other, none refused, from one tally to another
pub data Adds : Tally → List Window → Tally → Type 0 where
  none : {t : Tally} → Adds t [] t
  one : {t u v : Tally} {l : List Window} (w : Window) → added_to t w.0 w.1 ≡ Ok u → Adds u l v → Adds t (w ∷ l) v

-- the windows grow by the number of windows added, and the ticks by their sum
abbrev pub Sums : Type 0
Sums = (t u : Tally) (l : List Window) → Adds t l u → (u.windows ≡ t.windows + length l) × (u.ticks ≡ t.ticks + span l)
