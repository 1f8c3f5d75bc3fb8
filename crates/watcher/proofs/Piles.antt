-- A stack of p over entries that break no rule: its length and its sum stay small. For every walk that keeps p. Assumes nothing.
use Rattle.std.specs.List.{sum}
use Rattle.std.proofs.lemmas.List.Sums.{sum_by-cons}
use Prim.Native.Nat.{ℕ, ◌+◌, ◌-◌, ◌≤◌, ◌<◌}
use mathlib.Core.Path.{◌≡◌, subst}
use mathlib.Core.List.{List, [], ◌∷◌}
use native.Mathlib.Omega.{arith}
use lib.ListN.{length}
use Rattle.rules.specs.declared.Op.{Op}
use Rattle.rules.specs.declared.Op.TheVariants.{Either, Both, Without, Chain}
use Rattle.body.specs.declared.Entry.{Entry}
use Rattle.body.specs.declared.Entry.TheVariants.{Letter, Pair, Within, Wrong}
use Rattle.body.proofs.Walk.{Rest, rest_letter, rest_pair, rest_within, rest_wrong}
use Rattle.cell.specs.Cell.{possible}

-- an operator has at most two possible starts more than its operands
pub possible_le : (op : Op) (x y : ℕ) → possible op x y ≤ x + y + 2
unfolding possible
possible_le Either x y = omega arith
possible_le Both x y = omega arith
possible_le Without x y = omega arith
possible_le Chain x y = omega arith

pub sum_cons : (x : ℕ) (xs : List ℕ) → sum (x ∷ xs) ≡ x + sum xs
sum_cons = sum_by-cons (λ (k : ℕ). k)

-- the stack before entry i of n, where f says what each is
pub record Piled (f : ℕ → Entry) (n i : ℕ) (st : List ℕ) : Type 0 where
  pub few : sum st + length st ≤ i
  pub rest : Rest f n i (length st)

pub piled_start : (f : ℕ → Entry) (n : ℕ) → Rest f n 0 0 → Piled f n 0 []
piled_start f n r = record { few = omega arith; rest = r }

module _ {f : ℕ → Entry} {n i : ℕ} {st : List ℕ} (x : Piled f n i st) where
  module _ (h : i < n) where
    pub piled_letter : (a : ℕ) → f i ≡ Letter a → Piled f n (i + 1) (0 ∷ st)
    piled_letter a q =
        let d : length st + 1 ≡ length (0 ∷ st) = omega arith in
        record { few = omega (arith, x.few, sum_cons 0 st); rest = subst (Rest f n (i + 1)) d (rest_letter f n i (length st) h x.rest a q) }

    -- a restriction leaves the stack as it is
    pub piled_within : (a : ℕ) → f i ≡ Within a → Piled f n (i + 1) st
    piled_within a q = record { few = omega (arith, x.few); rest = (rest_within f n i (length st) h x.rest a q).1 }

    -- an operator finds its operands
    pub piled_two : (op : Op) → f i ≡ Pair op → 2 ≤ length st
    piled_two op q = (rest_pair f n i (length st) h x.rest op q).0

    pub piled_wrong : f i ≡ Wrong → ⊥
    piled_wrong q = rest_wrong f n i (length st) h x.rest q

pub piled_pair : {f : ℕ → Entry} {n i u v : ℕ} {st : List ℕ} → Piled f n i (v ∷ u ∷ st) → i < n → (op : Op) → f i ≡ Pair op
    → Piled f n (i + 1) (possible op u v ∷ st)
piled_pair {f} {n} {i} {u} {v} {st} x h op q =
    let d : length (v ∷ u ∷ st) - 1 ≡ length (possible op u v ∷ st) = omega arith in
    record {
      few = omega (arith, x.few, possible_le op u v, sum_cons);
      rest = subst (Rest f n (i + 1)) d (rest_pair f n i (length (v ∷ u ∷ st)) h x.rest op q).1;
    }

-- an operator's tree has few possible starts, if all have
pub merged_few : (op : Op) (x y : ℕ) {st st₁ st₂ : List ℕ} → st ≡ y ∷ st₁ → st₁ ≡ x ∷ st₂ → sum st + length st ≤ 63 → possible op x y ≤ 63
merged_few op x y {st₂ = st₂} e f h =
    let k : sum (y ∷ x ∷ st₂) + length (y ∷ x ∷ st₂) ≤ 63 = rw (e, f) at h in
    omega (arith, possible_le op x y, sum_cons)
