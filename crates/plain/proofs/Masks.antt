-- The masks of the starts seen so far, made in one pass over the rows; and each operator's row from them. Assumes nothing.
use mathlib.Core.Path.{◌≡◌, ◌∙◌}
use mathlib.Core.List.{List}
use Prim.Native.Nat.{ℕ, ◌+◌, ◌≤◌, ◌<◌}
use native.Mathlib.Omega.{arith}
use native.Mathlib.Decide.{ℕ_discrete}
use lib.Bits.{bit_or}
use lib.ListN.{get_or, set, length, length-set}
use lib.Seq.{get_or-set_same, get_or-set_other}
use Rattle.plain.specs.Row.{Exactly}
use Rattle.plain.specs.inner.Fill.{Before}
use Rattle.plain.proofs.Sets.{before_none, before_more}

-- the masks up to place i are made, and `sum` is the last of them
pub record Seeing (rows masks : List ℕ) (sum i : ℕ) : Type 0 where
  pub long : length masks ≡ 65
  pub upto : i ≤ 64
  pub last : Exactly sum (Before rows i)
  pub masked : (k : ℕ) → k ≤ i → Exactly (get_or masks k 0) (Before rows k)

pub seeing_none : (rows masks : List ℕ) → length masks ≡ 65 → Seeing rows (set masks 0 0) 0 0
seeing_none rows masks h = record {
  long = length-set masks 0 0 ∙ h;
  upto = omega arith;
  last = before_none rows;
  masked = λ k l. let e : k ≡ 0 = omega arith in rw (e, get_or-set_same masks 0 0 0 (omega arith)) (before_none rows);
}

pub seeing_more : (rows masks : List ℕ) (sum i : ℕ) → i < 64 → Seeing rows masks sum i
    → Seeing rows (set masks (i + 1) (bit_or sum (get_or rows i 0))) (bit_or sum (get_or rows i 0)) (i + 1)
seeing_more rows masks sum i h m = record {
  long = length-set masks (i + 1) next ∙ m.long;
  upto = omega arith;
  last = made;
  masked = λ k l. at k l (ℕ_discrete k (i + 1));
}
  where
    next : ℕ
    next = bit_or sum (get_or rows i 0)

    made : Exactly next (Before rows (i + 1))
    made = before_more rows i sum m.last

    at : (k : ℕ) → k ≤ i + 1 → Dec (k ≡ i + 1) → Exactly (get_or (set masks (i + 1) next) k 0) (Before rows k)
    at k l (yes e) = rw (e, get_or-set_same masks (i + 1) next 0 (omega (arith, m.long))) made
    at k l (no e) = rw (get_or-set_other masks (i + 1) k next 0 e) (m.masked k (omega arith))
