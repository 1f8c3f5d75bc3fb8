-- Bytes and entries: each gives the other back. An entry is read from its own bytes, and the entries after it from what follows them.
-- Assumes nothing.
use Prim.Native.Nat.{ℕ, zero, suc, ◌+◌, ◌-◌, ◌*◌, ◌<◌, ◌≤◌, ◌^◌}
use mathlib.Core.Path.{◌≡◌, refl, sym, ap, ap₂, subst, ◌∙◌}
use mathlib.Core.Bool.{Bool, true, false, cond}
use mathlib.Core.List.{List, [], ◌∷◌, ◌++◌}
use native.Mathlib.Decide.{dec_le}
use native.Mathlib.Nat.{zero-mul, pow-le-pow_right}
use native.Mathlib.Numerals.{add-one}
use native.Mathlib.Omega.{arith}
use lib.Dec.{eqb, ltb, leb}
use lib.ListN.{length, get_or, take, drop, length-append, length-drop, take-append-drop}
use lib.Seq.{get_or-drop, drop_at}
use borrow.Author.Tests.{lt-ltb, le-leb, lt-leb, eqb-true, eqb-false, ltb-true}
use Rattle.rules.specs.declared.Op.TheVariants.{Either, Both, Without, Chain}
use Rattle.rules.specs.Limits.{letters}
use Rattle.rules.specs.Lists.{All}
use Rattle.body.specs.declared.Entry.{Entry}
use Rattle.body.specs.declared.Entry.TheVariants.{Letter, Pair, Within, Wrong}
use Rattle.body.specs.Bytes.{bytes_of, value_at, Bytes}
use Rattle.body.specs.Entry.{op_number, op_of, entry_of, entry_bytes, entries_bytes, entries_by, entry_at}
use Rattle.body.proofs.Bytes.{length_bytes, value_drop, value_bytes, bytes_value}

-- an entry's type exists, and its number is below a bound; `wrong` is what is asked of one that breaks a rule by itself
abbrev pub Fits : Type 0 → ℕ → Entry → Type 0
Fits wrong bound (Letter n) = n < letters
Fits wrong bound (Pair op) = Unit {0}
Fits wrong bound (Within n) = n < bound
Fits wrong bound Wrong = wrong

pub length_entry : (width : ℕ) (s : Entry) → length (entry_bytes width s) ≡ width + 1
unfolding entry_bytes
length_entry width (Letter n) = omega (arith, length_bytes width n)
length_entry width (Pair op) = omega (arith, length_bytes width 0)
length_entry width (Within n) = omega (arith, length_bytes width n)
length_entry width Wrong = omega (arith, length_bytes width 0)

pub length_entries : (width : ℕ) (ss : List Entry) → length (entries_bytes width ss) ≡ (width + 1) * length ss
unfolding entries_bytes
length_entries width [] = omega arith
length_entries width (s ∷ ss) =
    length-append (entry_bytes width s) (entries_bytes width ss) ∙ omega (arith, length_entry width s, length_entries width ss)

-- an entry after the first ends within a body if it does so within the bytes after the first
ends_next : (width : ℕ) (b : List ℕ) (i : ℕ)
    → leb ((i + 1 + 1) * (width + 1)) (length b) ≡ leb ((i + 1) * (width + 1)) (length (drop (width + 1) b))
ends_next width b i = rw (length-drop (width + 1) b) (go (dec_le ((i + 1 + 1) * (width + 1)) (length b)))
  where
    go : Dec ((i + 1 + 1) * (width + 1) ≤ length b) → leb ((i + 1 + 1) * (width + 1)) (length b) ≡ leb ((i + 1) * (width + 1)) (length b - (width + 1))
    go (yes h) = le-leb ((i + 1 + 1) * (width + 1)) (length b) h ∙ sym (le-leb ((i + 1) * (width + 1)) (length b - (width + 1)) (omega arith))
    go (no h) =
        lt-leb ((i + 1 + 1) * (width + 1)) (length b) (omega arith) ∙ sym (lt-leb ((i + 1) * (width + 1)) (length b - (width + 1)) (omega arith))

-- the entries after the first are those of the bytes after it
entry_next : (width : ℕ) (b : List ℕ) (i : ℕ) → entry_at width b (i + 1) ≡ entry_at width (drop (width + 1) b) i
unfolding entry_at
entry_next width b i =
    let p : (i + 1) * (width + 1) ≡ width + 1 + i * (width + 1) = omega arith in
    let q : (i + 1) * (width + 1) + 1 ≡ width + 1 + (i * (width + 1) + 1) = omega arith in
    ap₂ (λ (t : Bool) (s : Entry). cond t s Wrong)
    (ends_next width b i)
    (ap₂ (entry_of width)
    (ap (λ (k : ℕ). get_or b k 0) p ∙ sym (get_or-drop (width + 1) b (i * (width + 1)) 0))
    (ap (value_at width b) q ∙ value_drop width b (width + 1) (i * (width + 1) + 1)))

entries_next : (width : ℕ) (b : List ℕ) (i n : ℕ) → entries_by (entry_at width b) (i + 1) n ≡ entries_by (entry_at width (drop (width + 1) b)) i n
unfolding entries_by
entries_next width b i zero = refl
entries_next width b i (suc n) = ap₂ (λ (s : Entry) (ss : List Entry). s ∷ ss) (entry_next width b i) (entries_next width b (i + 1) n)

-- the first entry, by its op and its argument
first_entry : (width : ℕ) (b : List ℕ) → width + 1 ≤ length b → entry_at width b 0 ≡ entry_of width (get_or b 0 0) (value_at width b 1)
unfolding entry_at
first_entry width b h = rw (le-leb ((0 + 1) * (width + 1)) (length b) (omega arith)) (simp zero-mul)

first_bytes : (width op n : ℕ) (rest : List ℕ) → n < 256 ^ width → entry_at width (op ∷ (bytes_of width n ++ rest)) 0 ≡ entry_of width op n
first_bytes width op n rest h =
    first_entry width (op ∷ (bytes_of width n ++ rest)) (omega (arith, length-append (bytes_of width n) rest, length_bytes width n))
    ∙ ap (entry_of width op) (value_drop width (op ∷ (bytes_of width n ++ rest)) 1 0 ∙ value_bytes width n rest h)

many : (width : ℕ) → 1 ≤ width → 256 ≤ 256 ^ width
many width h = pow-le-pow_right {n = 256} (omega arith) {i = 1} {j = width} h

-- an entry is read from its bytes
entry_read_back : (width : ℕ) → 1 ≤ width → (s : Entry) (rest : List ℕ) → Fits ⊥ (256 ^ width) s → entry_at width (entry_bytes width s ++ rest) 0 ≡ s
unfolding entry_bytes entry_of
entry_read_back width w (Letter n) rest h =
    first_bytes width 0 n rest (omega (arith, many width w)) ∙ rw (lt-ltb n 32 h)
entry_read_back width w (Pair Either) rest h = first_bytes width 1 0 rest (omega (arith, many width w))
entry_read_back width w (Pair Both) rest h = first_bytes width 2 0 rest (omega (arith, many width w))
entry_read_back width w (Pair Without) rest h = first_bytes width 3 0 rest (omega (arith, many width w))
entry_read_back width w (Pair Chain) rest h = first_bytes width 4 0 rest (omega (arith, many width w))
entry_read_back width w (Within n) rest h = first_bytes width 5 n rest h ∙ rw (lt-ltb n (256 ^ width) h)
entry_read_back width w Wrong rest h = absurd h

-- entries are read from their bytes
pub entries_read_back : (width : ℕ) → 1 ≤ width → (ss : List Entry) → All (Fits ⊥ (256 ^ width)) ss
    → entries_by (entry_at width (entries_bytes width ss)) 0 (length ss) ≡ ss
unfolding entries_bytes entries_by
entries_read_back width w [] h = refl
entries_read_back width w (s ∷ ss) h =
    let b : List ℕ = entry_bytes width s ++ entries_bytes width ss in
    let rest : drop (width + 1) b ≡ entries_bytes width ss = drop_at (entry_bytes width s) (entries_bytes width ss) (width + 1) (length_entry width s) in
    ap₂ (λ (t : Entry) (ts : List Entry). t ∷ ts)
    (entry_read_back width w s (entries_bytes width ss) h.0)
    (entries_next width b 0 (length ss)
    ∙ ap (λ (c : List ℕ). entries_by (entry_at width c) 0 (length ss)) rest
    ∙ entries_read_back width w ss h.1)

-- what is read fits, or breaks a rule by itself
pub entry_fits : (width op argument : ℕ) → Fits (Unit {0}) (256 ^ width) (entry_of width op argument)
unfolding entry_of
entry_fits width op argument = go (eqb op 0) (ltb argument 32) (ltb op 5) (eqb argument 0) (eqb op 5) (ltb argument (256 ^ width)) refl refl
  where
    go : (t₁ t₂ t₃ t₄ t₅ t₆ : Bool) → ltb argument 32 ≡ t₂ → ltb argument (256 ^ width) ≡ t₆
        → Fits (Unit {0}) (256 ^ width)
        (cond t₁ (cond t₂ (Letter argument) Wrong) (cond t₃ (cond t₄ (Pair (op_of op)) Wrong) (cond t₅ (cond t₆ (Within argument) Wrong) Wrong)))
    go true true t₃ t₄ t₅ t₆ p q = ltb-true argument 32 p
    go true false t₃ t₄ t₅ t₆ p q = tt
    go false t₂ true true t₅ t₆ p q = tt
    go false t₂ true false t₅ t₆ p q = tt
    go false t₂ false t₄ true true p q = ltb-true argument (256 ^ width) q
    go false t₂ false t₄ true false p q = tt
    go false t₂ false t₄ false t₆ p q = tt

pub entries_fit : (wrong : Type 0) (bound : ℕ) (f : ℕ → Entry) → ((i : ℕ) → Fits wrong bound (f i)) → (i n : ℕ)
    → All (Fits wrong bound) (entries_by f i n)
unfolding entries_by
entries_fit wrong bound f h i zero = tt
entries_fit wrong bound f h i (suc n) = (h i, entries_fit wrong bound f h (i + 1) n)

pub read_fits : (width : ℕ) (b : List ℕ) (i : ℕ) → Fits (Unit {0}) (256 ^ width) (entry_at width b i)
unfolding entry_at
read_fits width b i = go (leb ((i + 1) * (width + 1)) (length b))
  where
    go : (t : Bool) → Fits (Unit {0}) (256 ^ width)
        (cond t (entry_of width (get_or b (i * (width + 1)) 0) (value_at width b (i * (width + 1) + 1))) Wrong)
    go true = entry_fits width _ _
    go false = tt

-- an op number from 1 to 4 is that of its operator
pub number_of_op : (op : ℕ) → (op ≡ 0 → ⊥) → op < 5 → op_number (op_of op) ≡ op
number_of_op op z h = go (eqb op 1) (eqb op 2) (eqb op 3) refl refl refl
  where
    go : (t₁ t₂ t₃ : Bool) → eqb op 1 ≡ t₁ → eqb op 2 ≡ t₂ → eqb op 3 ≡ t₃
        → op_number (cond t₁ Either (cond t₂ Both (cond t₃ Without Chain))) ≡ op
    go true t₂ t₃ p q r = sym (eqb-true op 1 p)
    go false true t₃ p q r = sym (eqb-true op 2 q)
    go false false true p q r = sym (eqb-true op 3 r)
    go false false false p q r =
        let n₁ : op ≡ 1 → ⊥ = eqb-false op 1 p in
        let n₂ : op ≡ 2 → ⊥ = eqb-false op 2 q in
        let n₃ : op ≡ 3 → ⊥ = eqb-false op 3 r in
        omega arith

-- the op and the argument that an entry was read from are its bytes
bytes_entry : (width op argument : ℕ) → Fits ⊥ (256 ^ width) (entry_of width op argument)
    → entry_bytes width (entry_of width op argument) ≡ op ∷ bytes_of width argument
unfolding entry_of entry_bytes
bytes_entry width op argument f =
    go (eqb op 0) (ltb argument 32) (ltb op 5) (eqb argument 0) (eqb op 5) (ltb argument (256 ^ width)) refl refl refl refl f
  where
    go : (t₁ t₂ t₃ t₄ t₅ t₆ : Bool) → eqb op 0 ≡ t₁ → ltb op 5 ≡ t₃ → eqb argument 0 ≡ t₄ → eqb op 5 ≡ t₅
        → Fits ⊥ (256 ^ width)
        (cond t₁ (cond t₂ (Letter argument) Wrong) (cond t₃ (cond t₄ (Pair (op_of op)) Wrong) (cond t₅ (cond t₆ (Within argument) Wrong) Wrong)))
        → entry_bytes width
        (cond t₁ (cond t₂ (Letter argument) Wrong) (cond t₃ (cond t₄ (Pair (op_of op)) Wrong) (cond t₅ (cond t₆ (Within argument) Wrong) Wrong)))
        ≡ op ∷ bytes_of width argument
    go true true t₃ t₄ t₅ t₆ p q r s f = ap (λ (o : ℕ). o ∷ bytes_of width argument) (sym (eqb-true op 0 p))
    go true false t₃ t₄ t₅ t₆ p q r s f = absurd f
    go false t₂ true true t₅ t₆ p q r s f =
        ap₂ (λ (o a : ℕ). o ∷ bytes_of width a) (number_of_op op (eqb-false op 0 p) (ltb-true op 5 q)) (sym (eqb-true argument 0 r))
    go false t₂ true false t₅ t₆ p q r s f = absurd f
    go false t₂ false t₄ true true p q r s f = ap (λ (o : ℕ). o ∷ bytes_of width argument) (sym (eqb-true op 5 s))
    go false t₂ false t₄ true false p q r s f = absurd f
    go false t₂ false t₄ false t₆ p q r s f = absurd f

-- bytes are those of the entries that are read from them
pub bytes_entries : (width n : ℕ) (b : List ℕ) → Bytes b → length b ≡ (width + 1) * n
    → All (Fits ⊥ (256 ^ width)) (entries_by (entry_at width b) 0 n) → entries_bytes width (entries_by (entry_at width b) 0 n) ≡ b
unfolding entries_bytes entries_by
bytes_entries width zero [] w l f = refl
bytes_entries width zero (x ∷ b) w l f = absurd (omega arith)
bytes_entries width (suc n) [] w l f = absurd (omega arith)
bytes_entries width (suc n) (x ∷ b) w l f =
    let c : List ℕ = x ∷ b in
    let first : entry_bytes width (entry_at width c 0) ≡ x ∷ take width b =
    rw (first_entry width c (omega arith))
    (bytes_entry width x (value_at width c 1) (subst (Fits ⊥ (256 ^ width)) (first_entry width c (omega arith)) f.0)
    ∙ ap (λ (r : List ℕ). x ∷ r) (bytes_value width c 1 w (omega arith))) in
    let rest : entries_bytes width (entries_by (entry_at width c) 1 n) ≡ drop (width + 1) c =
    ap (entries_bytes width) (entries_next width c 0 n)
    ∙ bytes_entries width n (drop (width + 1) c) (λ k. rw (get_or-drop (width + 1) c k 0) (w (width + 1 + k)))
    (simp length-drop (omega arith)) (subst (All (Fits ⊥ (256 ^ width))) (entries_next width c 0 n) f.1) in
    rw (first, rest, add-one width) (ap (λ (r : List ℕ). x ∷ r) (take-append-drop width b))
