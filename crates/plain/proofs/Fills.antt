-- A loop that fills entry k's 64 words one after the other, in the part of the rows that begins with them. Assumes nothing.
use mathlib.Core.Path.{◌≡◌, refl, sym, ap, ◌∙◌}
use mathlib.Core.Logic.{◌⊎◌, inl, inr}
use mathlib.Core.List.{List, ◌++◌}
use Prim.Native.Nat.{ℕ, ◌+◌, ◌*◌, ◌-◌, ◌≤◌, ◌<◌}
use native.Mathlib.Omega.{arith}
use lib.ListN.{get_or, take, drop, length, length-take, length-drop, get_or-append}
use lib.Seq.{get_or-take, get_or-drop, get_or-append_right, ext_get_or}
use Rattle.rules.specs.declared.Op.{Op}
use Rattle.rules.specs.Instances.{Rule}
use Rattle.plain.specs.Rows.{Shown, rows_of}
use Rattle.plain.specs.inner.Fill.{Filled, FilledBy}

pub length_rows : (l : List ℕ) (a : ℕ) → a * 64 + 64 ≤ length l → length (rows_of l a) ≡ 64
length_rows l a h = omega (arith, length-take 64 (drop (a * 64) l), length-drop (a * 64) l)

-- row e of entry a
pub row_at : (l : List ℕ) (a e : ℕ) → e < 64 → get_or (rows_of l a) e 0 ≡ get_or l (a * 64 + e) 0
row_at l a e h = get_or-take 64 (drop (a * 64) l) e 0 h ∙ get_or-drop (a * 64) l e 0

-- what is as it was below k has entry a's rows as they were
pub same_rows : (l l' : List ℕ) (a k : ℕ) → a < k → k * 64 ≤ length l → length l ≡ length l' → ((i : ℕ) → i < k * 64 → get_or l i 0 ≡ get_or l' i 0)
    → rows_of l a ≡ rows_of l' a
same_rows l l' a k h m e f =
    ext_get_or 0 (rows_of l a) (rows_of l' a) (length_rows l a (omega arith) ∙ sym (length_rows l' a (omega arith)))
    (λ i b. let c : i < 64 = omega (arith, length_rows l a (omega arith)) in
    row_at l a i c ∙ f (a * 64 + i) (omega arith) ∙ sym (row_at l' a i c))

-- e of the 64 words are made, and no word but those is changed
pub record Made (Row : ℕ → ℕ → Type 0) (k e : ℕ) (old new : List ℕ) : Type 0 where
  pub long : length new ≡ length old
  pub upto : e ≤ 64
  pub kept : (i : ℕ) → ((i < k * 64) ⊎ (k * 64 + e ≤ i)) → get_or new i 0 ≡ get_or old i 0
  pub made : (j : ℕ) → j < e → Row j (get_or new (k * 64 + j) 0)

-- the rows before entry k have those of an entry before it
rows_before : (l : List ℕ) (a k : ℕ) → a < k → k * 64 ≤ length l → rows_of (take (k * 64) l) a ≡ rows_of l a
rows_before l a k h m =
    let long : length (take (k * 64) l) ≡ k * 64 = omega (arith, length-take (k * 64) l) in
    ext_get_or 0 (rows_of (take (k * 64) l) a) (rows_of l a) (length_rows (take (k * 64) l) a (omega arith) ∙ sym (length_rows l a (omega arith)))
    (λ i b. let c : i < 64 = omega (arith, length_rows (take (k * 64) l) a (omega arith)) in
    row_at (take (k * 64) l) a i c ∙ get_or-take (k * 64) l (a * 64 + i) 0 (omega arith) ∙ sym (row_at l a i c))

-- the first rows of a part are those of entry k, if k entries stand before it
pub filled_after : (Row : ℕ → ℕ → Type 0) (k : ℕ) (before old new : List ℕ) → length before ≡ k * 64 → FilledBy Row 0 old new
    → FilledBy Row k (before ++ old) (before ++ new)
filled_after Row k before old new long f = record { kept = kept; made = made }
  where
    at : (l : List ℕ) (i : ℕ) → k * 64 ≤ i → get_or (before ++ l) i 0 ≡ get_or l (i - k * 64) 0
    at l i h = get_or-append_right before l i 0 (omega (arith, long)) ∙ (rw long refl)

    kept : (i : ℕ) → ((i < k * 64) ⊎ (k * 64 + 64 ≤ i)) → get_or (before ++ new) i 0 ≡ get_or (before ++ old) i 0
    kept i (inl h) = get_or-append before new 0 i (omega (arith, long)) ∙ sym (get_or-append before old 0 i (omega (arith, long)))
    kept i (inr h) = at new i (omega arith) ∙ f.kept (i - k * 64) (inr (omega arith)) ∙ sym (at old i (omega arith))

    made : (e : ℕ) → e < 64 → Row e (get_or (before ++ new) (k * 64 + e) 0)
    made e h =
        let place : k * 64 + e - k * 64 ≡ 0 * 64 + e = omega arith in
        rw (at new (k * 64 + e) (omega arith), place) (f.made e h)

-- the rows of an entry before k are read in the part before the rows of k
pub read_before : (l before rows : List ℕ) (a k : ℕ) → a < k → k * 64 ≤ length l → before ≡ take (k * 64) l → rows ≡ rows_of before a → rows ≡ rows_of l a
read_before l before rows a k h m p q = q ∙ ap (λ b. rows_of b a) p ∙ rows_before l a k h m

-- the same of an operator's rows, whose operands stand before entry k
pub rule_after : (op op' : Op) (l before old new left right : List ℕ) (x y k : ℕ) → x < k → y < k → k * 64 ≤ length l
    → l ≡ before ++ old → before ≡ take (k * 64) l → length before ≡ k * 64 → left ≡ rows_of before x → right ≡ rows_of before y
    → op ≡ op' → Filled (Rule op' (Shown left) (Shown right)) 0 old new
    → Filled (Rule op (Shown (rows_of l x)) (Shown (rows_of l y))) k l (before ++ new)
rule_after op op' l before old new left right x y k hx hy room value front long el er o f =
    let first : left ≡ rows_of l x = read_before l before left x k hx room front el in
    let second : right ≡ rows_of l y = read_before l before right y k hy room front er in
    rw (← first, ← second, value, o) (filled_after _ k before old new long f)
