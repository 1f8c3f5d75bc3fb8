-- Where the starts of a step come from: under each operation of a step, from where its operands come.
-- Assumes nothing.
use mathlib.Core.Path.{◌≡◌, refl, sym, subst}
use mathlib.Core.Logic.{◌⊎◌, inl, inr}
use mathlib.Core.List.{List, [], ◌∷◌}
use Prim.Native.Nat.{ℕ, suc, ◌≤◌, min, max}
use native.Mathlib.Decide.{dec_le}
use native.Mathlib.Omega.{arith}
use Rattle.rules.specs.Lists.{In, All}
use Rattle.rules.specs.Decisions.{pick}
use Rattle.detector.specs.Memory.{Span}
use Rattle.detector.specs.Possible.{starts_of}
use Rattle.detector.specs.Step.{later}
use Rattle.detector.proofs.Operators.{later_start}

-- the start a at the tick t is none, is t, or was possible before
abbrev pub From : List ℕ → ℕ → ℕ → Type 0
From ss t a = (a ≡ 0) ⊎ ((a ≡ suc t) ⊎ In a ss)

pub from_wider : (l k : List ℕ) (t a : ℕ) → (In a l → In a k) → From l t a → From k t a
from_wider l k t a f (inl e) = inl e
from_wider l k t a f (inr (inl e)) = inr (inl e)
from_wider l k t a f (inr (inr i)) = inr (inr (f i))

pub from_eq : (l : List ℕ) (t a b : ℕ) → a ≡ b → From l t b → From l t a
from_eq l t a b e f = subst (From l t) (sym e) f

pub from_max : (l : List ℕ) (t a b : ℕ) → From l t a → From l t b → From l t (max a b)
from_max l t a b f g = go (dec_le b a)
  where
    go : Dec (b ≤ a) → From l t (max a b)
    go (yes d) = from_eq l t (max a b) a (omega arith) f
    go (no d) = from_eq l t (max a b) b (omega arith) g

pub from_min : (l : List ℕ) (t a b : ℕ) → From l t a → From l t b → From l t (min a b)
from_min l t a b f g = go (dec_le a b)
  where
    go : Dec (a ≤ b) → From l t (min a b)
    go (yes d) = from_eq l t (min a b) a (omega arith) f
    go (no d) = from_eq l t (min a b) b (omega arith) g

pub from_pick : {P : Type 0} (l : List ℕ) (t a : ℕ) (d : Dec P) → From l t a → From l t (pick d a 0)
from_pick l t a (yes d) f = f
from_pick l t a (no d) f = inl refl

pub from_later : (l : List ℕ) (t a : ℕ) (p : Span) → From l t p.start → From l t a → From l t (later p a t).start
from_later l t a p f g = from_eq l t (later p a t).start (max p.start a) (later_start p a t) (from_max l t p.start a f g)

-- all the starts of a list of pairs
pub all_starts : (Q : ℕ → Type 0) (l : List Span) → ((a : ℕ) → In a (starts_of l) → Q a) → All (λ p. Q p.start) l
all_starts Q [] f = tt
all_starts Q (p ∷ l) f = (f p.start (inl refl), all_starts Q l (λ a i. f a (inr i)))

pub in_starts : (Q : ℕ → Type 0) (l : List Span) → All (λ p. Q p.start) l → (a : ℕ) → In a (starts_of l) → Q a
in_starts Q [] h a i = absurd i
in_starts Q (p ∷ l) h a (inl e) = subst Q (sym e) h.0
in_starts Q (p ∷ l) h a (inr i) = in_starts Q l h.1 a i
