-- What holds of every instance: it starts no later than it ends, some event occurs at its end, and it depends on the record only up
-- to its end; and only one answer is the latest. Assumes nothing.
use mathlib.Core.Path.{◌≡◌, sym, ap, ◌∙◌}
use mathlib.Core.Logic.{inl, inr}
use Prim.Native.Nat.{ℕ, ◌^◌, ◌≤◌, ◌<◌, pred}
use native.Mathlib.Decide.{dec_le, dec_lt}
use native.Mathlib.Nat.{zero-div}
use native.Mathlib.Omega.{arith}
use Rattle.rules.specs.declared.Op.TheVariants.{Either, Both, Without, Chain}
use Rattle.rules.specs.Bits.{bit}
use Rattle.rules.specs.Pattern.{Pattern, event, pair, within}
use Rattle.rules.specs.Instances.{Record, Instances, Has, Latest}

-- an instance starts no later than it ends
pub has_le : (r : Record) (e : Pattern) (s t : ℕ) → Has r e s t → s ≤ t
has_le r (event n) s t h = omega (arith, h.0)
has_le r (pair Either x y) s t (inl h) = has_le r x s t h
has_le r (pair Either x y) s t (inr h) = has_le r y s t h
has_le r (pair Both x y) s t (s₁, t₁, s₂, t₂, hx, hy, es, et) = omega (arith, has_le r x s₁ t₁ hx, has_le r y s₂ t₂ hy)
has_le r (pair Without x y) s t h = has_le r x s t h.0
has_le r (pair Chain x y) s t (t₁, s₂, hx, hy, lt) = omega (arith, has_le r x s t₁ hx, has_le r y s₂ t hy)
has_le r (within x n) s t h = has_le r x s t h.0

bit_none : (n : ℕ) → bit 0 n ≡ 0
unfolding bit
bit_none n = omega (arith, zero-div (2 ^ n))

-- some event occurs at the end of an instance
pub has_some : (r : Record) (e : Pattern) (s t : ℕ) → Has r e s t → r t ≡ 0 → ⊥
has_some r (event n) s t h z = omega (arith, h.1, ap (λ (w : ℕ). bit w n) z, bit_none n)
has_some r (pair Either x y) s t (inl h) z = has_some r x s t h z
has_some r (pair Either x y) s t (inr h) z = has_some r y s t h z
has_some r (pair Both x y) s t (s₁, t₁, s₂, t₂, hx, hy, es, et) z = go (dec_le t₂ t₁) (has_some r x s₁ t₁ hx) (has_some r y s₂ t₂ hy)
  where
    go : Dec (t₂ ≤ t₁) → (r t₁ ≡ 0 → ⊥) → (r t₂ ≡ 0 → ⊥) → ⊥
    go (yes h) f g = f (ap r (omega arith) ∙ z)
    go (no h) f g = g (ap r (omega arith) ∙ z)
has_some r (pair Without x y) s t h z = has_some r x s t h.0 z
has_some r (pair Chain x y) s t (t₁, s₂, hx, hy, lt) z = has_some r y s₂ t hy z
has_some r (within x n) s t h z = has_some r x s t h.0 z

-- two records are the same up to t
abbrev pub Agree : Record → Record → ℕ → Type 0
Agree r r' t = (u : ℕ) → u ≤ t → r u ≡ r' u

-- an instance depends only on the record up to its end
pub has_agree : (r r' : Record) (e : Pattern) (s t : ℕ) → Agree r r' t → Has r e s t → Has r' e s t
has_agree r r' (event n) s t q h = (h.0, ap (λ (w : ℕ). bit w n) (sym (q t (omega arith))) ∙ h.1)
has_agree r r' (pair Either x y) s t q (inl h) = inl (has_agree r r' x s t q h)
has_agree r r' (pair Either x y) s t q (inr h) = inr (has_agree r r' y s t q h)
has_agree r r' (pair Both x y) s t q (s₁, t₁, s₂, t₂, hx, hy, es, et) =
    (s₁, t₁, s₂, t₂, has_agree r r' x s₁ t₁ (λ u k. q u (omega arith)) hx, has_agree r r' y s₂ t₂ (λ u k. q u (omega arith)) hy, es, et)
has_agree r r' (pair Without x y) s t q h =
    (has_agree r r' x s t q h.0, λ s' t' a b hy. h.1 s' t' a b (has_agree r' r y s' t' (λ u k. sym (q u (omega arith))) hy))
has_agree r r' (pair Chain x y) s t q (t₁, s₂, hx, hy, lt) =
    (t₁, s₂, has_agree r r' x s t₁ (λ u k. q u (omega (arith, has_le r y s₂ t hy))) hx, has_agree r r' y s₂ t q hy, lt)
has_agree r r' (within x n) s t q h = (has_agree r r' x s t q h.0, h.1)

-- only one answer is the latest
pub latest_unique : {X : Instances} {t a b : ℕ} → Latest X t a → Latest X t b → a ≡ b
latest_unique {X} {t} {a} {b} l k = go (dec_lt a b) (dec_lt b a)
  where
    go : Dec (a < b) → Dec (b < a) → a ≡ b
    go (yes h) d = omega (arith, l.bound (pred b) (k.real (pred b) (omega arith)))
    go (no h) (yes d) = omega (arith, k.bound (pred a) (l.real (pred a) (omega arith)))
    go (no h) (no d) = omega arith
