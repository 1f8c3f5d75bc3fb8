-- What each row function computes, as a statement on its bits. Assumes nothing.
use Rattle.std.specs.Prelude.{Some, None}
use mathlib.Core.Path.{◌≡◌, sym, ap, ◌∙◌, subst}
use mathlib.Core.Logic.{◌⊎◌, inl, inr, ⊎_elim, ◌↔◌}
use mathlib.Core.List.{List}
use Prim.Native.Nat.{ℕ, ◌+◌, ◌-◌, ◌*◌, ◌/◌, ◌%◌, ◌^◌, ◌≤◌, ◌<◌, min}
use native.Mathlib.Nat.{one-mul, mod-eq_of_lt, lt_of_le_of_lt, div-mul-le_self}
use native.Mathlib.Omega.{arith}
use native.Mathlib.Decide.{dec_lt, dec_le, ℕ_discrete}
use lib.Bits.{bit_and, bit_or}
use lib.ListN.{get_or, length, get_or-eq_default}
use lib.Pow.{shl_exact}
use Rattle.rules.specs.declared.Op.TheVariants.{Both, Without}
use Rattle.rules.specs.Bits.{bit, On}
use Rattle.rules.specs.Instances.{Rule}
use Rattle.plain.specs.Rows.{Shown}
use Rattle.plain.specs.Row.{Exactly, IsLatest}
use Rattle.plain.specs.inner.Fill.{Before, Lesser}
use Rattle.rules.proofs.Bits.{bit_lt, bit_of_or, bit_of_and, bit_shr, bit_shl, bit_shl_low, bit_zero, bit_mask, bit_mask_high, has_lt, bit_one, bit_one_same}

-- no start
pub empty : (P : ℕ → Type 0) → ((s : ℕ) → P s → ⊥) → Exactly 0 P
empty P h s = ((λ b. absurd (omega (arith, bit_zero s))), (λ p. absurd (h s p)))

-- `|`
pub or : (a b : ℕ) → Exactly (bit_or a b) (λ s. On a s ⊎ On b s)
or a b s = (to (dec_lt 0 (bit a s)), ⊎_elim (λ h. omega (arith, bit_of_or a b s, bit_lt b s)) (λ h. omega (arith, bit_of_or a b s, bit_lt a s)))
  where
    to : Dec (0 < bit a s) → On (bit_or a b) s → On a s ⊎ On b s
    to (yes p) h = inl (omega (arith, bit_lt a s))
    to (no p) h = inr (omega (arith, bit_of_or a b s))

-- the starts from k on
pub from_k : (a k : ℕ) → a < 2 ^ 64 → Exactly (a / 2 ^ k * 2 ^ k % 2 ^ 64) (λ s. On a s × (k ≤ s))
from_k a k ha s = (to (dec_lt s k), back)
  where
    e : a / 2 ^ k * 2 ^ k % 2 ^ 64 ≡ a / 2 ^ k * 2 ^ k
    e = mod-eq_of_lt (lt_of_le_of_lt (div-mul-le_self a (2 ^ k)) ha)

    same : k ≤ s → bit (a / 2 ^ k * 2 ^ k) s ≡ bit a s
    same l =
        let p : k + (s - k) ≡ s = omega arith in
        subst (λ (x : ℕ). bit (a / 2 ^ k * 2 ^ k) x ≡ bit a x) p (bit_shl (a / 2 ^ k) k (s - k) ∙ bit_shr a k (s - k))

    to : Dec (s < k) → On (a / 2 ^ k * 2 ^ k % 2 ^ 64) s → On a s × (k ≤ s)
    to (yes l) h = absurd (omega (arith, bit_shl_low (a / 2 ^ k) k s l, ap (λ (x : ℕ). bit x s) e))
    to (no l) h = (omega (arith, same (omega arith), ap (λ (x : ℕ). bit x s) e), omega arith)

    back : On a s × (k ≤ s) → On (a / 2 ^ k * 2 ^ k % 2 ^ 64) s
    back p = omega (arith, same p.1, ap (λ (x : ℕ). bit x s) e)

-- the latest start
pub latest_le : (a l p : ℕ) → IsLatest a (Some l) → On a p → p ≤ l
latest_le a l p e h = go (dec_lt l p)
  where
    go : Dec (l < p) → p ≤ l
    go (yes k) = absurd (e.1 p k h)
    go (no k) = omega arith

-- the lesser of two starts
pub lesser_none : (a b : ℕ) → IsLatest a None → Exactly 0 (Lesser a b)
lesser_none a b e = empty (Lesser a b) (λ s p. e p.0 p.2)

pub lesser_none_r : (a b : ℕ) → IsLatest b None → Exactly 0 (Lesser a b)
lesser_none_r a b e = empty (Lesser a b) (λ s p. e p.1 p.3)

pub low : (a k : ℕ) → k ≤ 63 → Exactly (bit_and a ((2 ^ 64 - 1) / 2 ^ (63 - k))) (λ s. On a s × (s ≤ k))
low a k hk s = (to (dec_lt k s), back)
  where
    m : ℕ
    m = (2 ^ 64 - 1) / 2 ^ (63 - k)

    to : Dec (k < s) → On (bit_and a m) s → On a s × (s ≤ k)
    to (yes l) h = absurd (omega (arith, bit_of_and a m s, bit_shr (2 ^ 64 - 1) (63 - k) s, bit_mask_high 64 (63 - k + s) (omega arith)))
    to (no l) h = (omega (arith, bit_of_and a m s, bit_lt a s), omega arith)

    back : On a s × (s ≤ k) → On (bit_and a m) s
    back p = omega (arith, bit_of_and a m s, bit_shr (2 ^ 64 - 1) (63 - k) s, bit_mask 64 (63 - k + s) (omega (arith, p.1)))

pub all : (a k : ℕ) → a < 2 ^ 64 → 64 ≤ k → Exactly a (λ s. On a s × (s ≤ k))
all a k ha hk s = ((λ h. (h, omega (arith, has_lt a 64 s ha h))), (λ p. p.0))

pub from_high : (a k : ℕ) → a < 2 ^ 64 → 64 ≤ k → Exactly 0 (λ s. On a s × (k ≤ s))
from_high a k ha hk = empty (λ s. On a s × (k ≤ s)) (λ s p. omega (arith, has_lt a 64 s ha p.0, p.1))

pub lesser_at : (a b l m k r : ℕ) → IsLatest a (Some l) → IsLatest b (Some m) → k ≡ min l m → Exactly r (λ s. On (bit_or a b) s × (s ≤ k)) → Exactly r (Lesser a b)
lesser_at a b l m k r ea eb ek f s = ((λ h. to ((f s).0 h)), (λ p. (f s).1 (back p (dec_le p.0 p.1))))
  where
    to : On (bit_or a b) s × (s ≤ k) → Lesser a b s
    to h = ⊎_elim (λ i. (s, m, i, eb.0, omega (arith, h.1))) (λ i. (l, s, ea.0, i, omega (arith, h.1))) ((or a b s).0 h.0)

    back : (p : Lesser a b s) → Dec (p.0 ≤ p.1) → On (bit_or a b) s × (s ≤ k)
    back p (yes d) =
        let e : p.0 ≡ s = omega (arith, p.4) in
        ((or a b s).1 (inl (subst (On a) e p.2)), omega (arith, latest_le a l p.0 ea p.2, latest_le b m p.1 eb p.3, p.4))
    back p (no d) =
        let e : p.1 ≡ s = omega (arith, p.4) in
        ((or a b s).1 (inr (subst (On b) e p.3)), omega (arith, latest_le a l p.0 ea p.2, latest_le b m p.1 eb p.3, p.4))

-- the rows below k
pub before_none : (x : List ℕ) → Exactly 0 (Before x 0)
before_none x = empty (Before x 0) (λ s p. omega (arith, p.1))

pub before_more : (x : List ℕ) (i acc : ℕ) → Exactly acc (Before x i) → Exactly (bit_or acc (get_or x i 0)) (Before x (i + 1))
before_more x i acc f s = ((λ h. to ((or acc (get_or x i 0) s).0 h)), (λ p. (or acc (get_or x i 0) s).1 (back p (ℕ_discrete p.0 i))))
  where
    to : On acc s ⊎ Shown x s i → Before x (i + 1) s
    to (inl h) = let b = (f s).0 h in (b.0, omega (arith, b.1), b.2)
    to (inr h) = (i, omega arith, h)

    back : (p : Before x (i + 1) s) → Dec (p.0 ≡ i) → On acc s ⊎ Shown x s i
    back p (yes e) = inr (subst (Shown x s) e p.2)
    back p (no e) = inl ((f s).1 (p.0, omega (arith, p.1), p.2))

-- `;`: the starts of x that end before the latest start of y's row
abbrev pub Follows : List ℕ → ℕ → ℕ → Type 0
Follows x y s = (t : ℕ) × (u : ℕ) × Shown x s t × On y u × (t < u)

pub chain_none : (x : List ℕ) (y : ℕ) → IsLatest y None → Exactly 0 (Follows x y)
chain_none x y l = empty (Follows x y) (λ s p. l p.1 p.3)

pub chain_at : (x : List ℕ) (y u r : ℕ) → IsLatest y (Some u) → Exactly r (Before x u) → Exactly r (Follows x y)
chain_at x y u r l f s = (
  (λ h. let b = (f s).0 h in (b.0, u, b.2, l.0, b.1)),
  (λ p. (f s).1 (p.0, omega (arith, latest_le y u p.1 l p.3, p.4), p.2)),
)

-- `-`, by the starts of y that end by e
pub without : (x y : List ℕ) (e py r : ℕ) → Exactly py (Before y (e + 1)) → Exactly r (λ s. On (get_or x e 0) s × ((t : ℕ) → On py t → s ≤ t → ⊥)) → Exactly r (λ s. Rule Without (Shown x) (Shown y) s e)
without x y e py r g f s = (
  (λ h. (((f s).0 h).0, (λ p t l m i. ((f s).0 h).1 p ((g p).1 (t, omega arith, i)) l))),
  (λ q. (f s).1 (q.0, (λ t h l. let b = (g t).0 h in q.1 t b.0 l (omega (arith, b.1)) b.2))),
)

-- `+`, by the starts of each side that end by e
pub both : (x y : List ℕ) (e px py r1 r2 r : ℕ) → Exactly px (Before x (e + 1)) → Exactly py (Before y (e + 1))
    → Exactly r1 (Lesser (get_or x e 0) py) → Exactly r2 (Lesser (get_or y e 0) px) → Exactly r (λ s. On r1 s ⊎ On r2 s) → Exactly r (λ s. Rule Both (Shown x) (Shown y) s e)
both x y e px py r1 r2 r gx gy f1 f2 f s = ((λ h. to ((f s).0 h)), (λ q. (f s).1 (back q (dec_le q.3 q.1))))
  where
    to : On r1 s ⊎ On r2 s → Rule Both (Shown x) (Shown y) s e
    to (inl h) =
        let l = (f1 s).0 h in
        let b = (gy l.1).0 l.3 in
        (l.0, e, l.1, b.0, l.2, b.2, l.4, omega (arith, b.1))
    to (inr h) =
        let l = (f2 s).0 h in
        let b = (gx l.1).0 l.3 in
        (l.1, b.0, l.0, e, b.2, l.2, omega (arith, l.4), omega (arith, b.1))

    back : (q : Rule Both (Shown x) (Shown y) s e) → Dec (q.3 ≤ q.1) → On r1 s ⊎ On r2 s
    back q (yes d) =
        let t : q.1 ≡ e = omega (arith, q.7) in
        inl ((f1 s).1 (q.0, q.2, subst (Shown x q.0) t q.4, (gy q.2).1 (q.3, omega (arith, q.7), q.5), q.6))
    back q (no d) =
        let u : q.3 ≡ e = omega (arith, q.7) in
        inr ((f2 s).1 (q.2, q.0, subst (Shown y q.2) u q.5, (gx q.0).1 (q.1, omega (arith, q.7), q.4), omega (arith, q.6)))

-- a letter
pub one_bit : (e s : ℕ) → e < 64 → On (1 * 2 ^ e % 2 ^ 64) s ↔ (s ≡ e)
one_bit e s h =
    let p : 1 * 2 ^ e % 2 ^ 64 ≡ 2 ^ e = shl_exact 1 e 64 (omega arith) (omega arith) ∙ one-mul (2 ^ e) in
    ((λ b. bit_one e s (subst (λ (n : ℕ). On n s) p b)), (λ q. subst (λ (n : ℕ). On n s) (sym p) (subst (λ (n : ℕ). On (2 ^ e) n) (sym q) (bit_one_same e))))

pub letter_in : (w k e : ℕ) → e < 64 → On w k → Exactly (1 * 2 ^ e % 2 ^ 64) (λ s. (s ≡ e) × On w k)
letter_in w k e h b s = ((λ c. ((one_bit e s h).0 c, b)), (λ p. (one_bit e s h).1 p.0))

pub letter_out : (words : List ℕ) (k e : ℕ) → length words ≤ e → Exactly 0 (λ s. (s ≡ e) × On (get_or words e 0) k)
letter_out words k e h =
    empty (λ s. (s ≡ e) × On (get_or words e 0) k) (λ s p. omega (arith, bit_zero k, p.1, ap (λ (n : ℕ). bit n k) (get_or-eq_default words 0 h)))
