-- One entry, filled, holds the instances of its operator on whatever its operands' rows hold. Assumes nothing.
use mathlib.Core.Path.{◌≡◌, sym, ap, ◌∙◌, subst}
use mathlib.Core.Logic.Iff
use mathlib.Core.Logic.{inl, inr, ⊎_elim, ◌↔◌}
use mathlib.Core.List.{List}
use Prim.Native.Nat.{ℕ, ◌+◌, ◌*◌, ◌≤◌, ◌<◌}
use native.Mathlib.Omega.{arith}
use native.Mathlib.Decide.{dec_lt, dec_le}
use lib.ListN.{get_or, drop, length, length-take, get_or-eq_default}
use lib.Seq.{get_or-take, get_or-drop}
use Rattle.rules.specs.declared.Op.{Op}
use Rattle.rules.specs.declared.Op.TheVariants.{Either, Both, Without, Chain}
use Rattle.rules.specs.Bits.{bit, On}
use Rattle.rules.specs.Instances.{Instances, Occurs, Rule, Short}
use Rattle.rules.proofs.Bits.{bit_zero}
use Rattle.plain.specs.Rows.{Shown, rows_of, worded}
use Rattle.plain.specs.inner.Fill.{Filled}

-- two sets with the same instances
abbrev pub Same : Instances → Instances → Type 0
Same X Y = (s e : ℕ) → X s e ↔ Y s e

-- an operator sees only which instances its operands have
pub rule_same : (op : Op) (X X' Y Y' : Instances) → Same X X' → Same Y Y' → Same (Rule op X Y) (Rule op X' Y')
rule_same Either X X' Y Y' f g s e = (
  ⊎_elim (λ h. inl ((f s e).0 h)) (λ h. inr ((g s e).0 h)),
  ⊎_elim (λ h. inl ((f s e).1 h)) (λ h. inr ((g s e).1 h)),
)
rule_same Both X X' Y Y' f g s e = (
  (λ q. (q.0, q.1, q.2, q.3, (f q.0 q.1).0 q.4, (g q.2 q.3).0 q.5, q.6, q.7)),
  (λ q. (q.0, q.1, q.2, q.3, (f q.0 q.1).1 q.4, (g q.2 q.3).1 q.5, q.6, q.7)),
)
rule_same Without X X' Y Y' f g s e = (
  (λ q. ((f s e).0 q.0, (λ p t l m i. q.1 p t l m ((g p t).1 i)))),
  (λ q. ((f s e).1 q.0, (λ p t l m i. q.1 p t l m ((g p t).0 i)))),
)
rule_same Chain X X' Y Y' f g s e = (
  (λ q. (q.0, q.1, (f s q.0).0 q.2, (g q.1 e).0 q.3, q.4)),
  (λ q. (q.0, q.1, (f s q.0).1 q.2, (g q.1 e).1 q.3, q.4)),
)

pub short_same : (n : ℕ) (X X' : Instances) → Same X X' → Same (Short n X) (Short n X')
short_same n X X' f s e = ((λ q. ((f s e).0 q.0, q.1)), (λ q. ((f s e).1 q.0, q.1)))

-- no row past the last, so no instance ends there
pub past : (l : List ℕ) (s e : ℕ) → length l ≤ e → Shown l s e → ⊥
past l s e h b = omega (arith, bit_zero s, ap (λ (n : ℕ). bit n s) (get_or-eq_default l 0 h))

pub rows_past : (l : List ℕ) (a s e : ℕ) → 64 ≤ e → Shown (rows_of l a) s e → ⊥
rows_past l a s e h b = past (rows_of l a) s e (omega (arith, length-take 64 (drop (a * 64) l))) b

-- X has no instance that ends past the rows
abbrev pub Inside : Instances → Type 0
Inside X = (s e : ℕ) → 64 ≤ e → X s e → ⊥

pub letter_inside : (words : List ℕ) (k : ℕ) → length words ≤ 64 → Inside (Occurs (worded words) k)
letter_inside words k w s e h q = past words k e (omega arith) q.1

pub rule_inside : (op : Op) (X Y : Instances) → Inside X → Inside Y → Inside (Rule op X Y)
rule_inside Either X Y f g s e h (inl q) = f s e h q
rule_inside Either X Y f g s e h (inr q) = g s e h q
rule_inside Both X Y f g s e h q = go (dec_le 64 q.1)
  where
    go : Dec (64 ≤ q.1) → ⊥
    go (yes d) = f q.0 q.1 d q.4
    go (no d) = g q.2 q.3 (omega (arith, q.7)) q.5
rule_inside Without X Y f g s e h q = f s e h q.0
rule_inside Chain X Y f g s e h q = g q.1 e h q.3

-- the rows of entry k hold the instances of X
pub filled_same : (X : Instances) (k : ℕ) (old new : List ℕ) → Inside X → Filled X k old new → Same (Shown (rows_of new k)) X
filled_same X k old new w m s e = both (dec_lt e 64)
  where
    both : Dec (e < 64) → Shown (rows_of new k) s e ↔ X s e
    both (yes h) =
        let p : get_or (rows_of new k) e 0 ≡ get_or new (k * 64 + e) 0 = get_or-take 64 (drop (k * 64) new) e 0 h ∙ get_or-drop (k * 64) new e 0 in (
          (λ i. (m.made e h s).0 (subst (λ (n : ℕ). On n s) p i)),
          (λ q. subst (λ (n : ℕ). On n s) (sym p) ((m.made e h s).1 q)),
        )
    both (no h) = ((λ i. absurd (rows_past new k s e (omega arith) i)), (λ q. absurd (w s e (omega arith) q)))

-- so an operator's rows hold its instances, on whatever its operands' rows hold
pub filled_rule : (op : Op) (a b k : ℕ) (old new : List ℕ) (X Y : Instances) → Same (Shown (rows_of old a)) X → Same (Shown (rows_of old b)) Y
    → Filled (Rule op (Shown (rows_of old a)) (Shown (rows_of old b))) k old new → Same (Shown (rows_of new k)) (Rule op X Y)
filled_rule op a b k old new X Y f g m s e =
    Iff.trans (filled_same _ k old new (rule_inside op _ _ (rows_past old a) (rows_past old b)) m s e) (rule_same op (Shown (rows_of old a)) X (Shown (rows_of old b)) Y f g s e)

-- and a restriction's rows its instances
pub filled_short : (n a k : ℕ) (old new : List ℕ) (X : Instances) → Same (Shown (rows_of old a)) X
    → Filled (Short n (Shown (rows_of old a))) k old new → Same (Shown (rows_of new k)) (Short n X)
filled_short n a k old new X f m s e =
    Iff.trans (filled_same _ k old new (λ s' e' h q. rows_past old a s' e' h q.0) m s e) (short_same n (Shown (rows_of old a)) X f s e)
