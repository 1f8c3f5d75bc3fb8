-- The letters of a word of events, both ways: what is written is read, and what is read was written. The word so far holds only types
-- below the next one allowed, so that a letter's bit is added to it. Assumes nothing.
use mathlib.Core.Path.{◌≡◌, refl, sym, ap, ap₂, ◌∙◌}
use Prim.Native.Nat.{ℕ, zero, suc, ◌+◌, ◌-◌, ◌*◌, ◌%◌, ◌^◌, ◌<◌, ◌≤◌}
use native.Mathlib.Omega.{arith}
use native.Mathlib.Nat.{add_comm, mod-lt, mod-eq_of_lt, lt_of_lt_of_le, one-mul}
use mathlib.Core.List.{List, [], ◌∷◌, ◌++◌}
use lib.Pow.{pow_pos, pow-add, pow_mono, shl_exact, mod-pow-add, mod-mod-pow}
use lib.ListN.{length}
use borrow.Author.Tests.{lt-ltb, le-ltb, eq-eqb, ne_eqb}
use Rattle.rules.specs.Limits.{letters}
use Rattle.rules.specs.Bits.{bit}
use Rattle.rules.proofs.Bits.{bit_lt, bit_low, bit_high}
use Rattle.text.specs.Render.{letter_byte}
use Rattle.text.specs.Characters.{letter_of}
use Rattle.decimal.proofs.Branches.{either_way, either_is, by_option}
use Rattle.std.specs.Prelude.{Some, None}
use Rattle.std.proofs.lemmas.Option.{none-some, same_Some}
use Rattle.text.proofs.Bytes.{letter_of_byte, byte_letter}
use Rattle.line.specs.Lines.{letter_if, letters_from, letters_of}
use Rattle.line.specs.inner.Scan.{word_from, word_of}

letter_on : (w n : ℕ) → bit w n ≡ 1 → letter_if w n ≡ letter_byte n ∷ []
letter_on w n b = simp (eq-eqb (bit w n) 1 b)

letter_off : (w n : ℕ) → bit w n ≡ 0 → letter_if w n ≡ []
letter_off w n b = simp (ne_eqb (bit w n) 1 (λ e. omega arith))

module _ (c : ℕ) (s : List ℕ) (n w : ℕ) where
  pub word_more : (k : ℕ) → letter_of c ≡ Some k → n ≤ k → word_from n w (c ∷ s) ≡ word_from (k + 1) (w + 2 ^ k) s
  unfolding word_from
  word_more k q l = simp (q, le-ltb k n l)

  -- a letter out of order, or given twice
  pub word_low : (k : ℕ) → letter_of c ≡ Some k → k < n → word_from n w (c ∷ s) ≡ None
  unfolding word_from
  word_low k q h = simp (q, lt-ltb k n h)

  pub word_other : letter_of c ≡ None → word_from n w (c ∷ s) ≡ None
  unfolding word_from
  word_other q = simp q

module _ (n w : ℕ) where
  pub word_empty : w ≡ 0 → word_from n w [] ≡ None
  unfolding word_from
  word_empty z = simp (eq-eqb w 0 z)

  pub word_done : 0 < w → word_from n w [] ≡ Some w
  unfolding word_from
  word_done p = simp (ne_eqb w 0 (λ e. omega arith))

word_letter : (k : ℕ) (s : List ℕ) (n w : ℕ) → n ≤ k → k < letters → word_from n w (letter_byte k ∷ s) ≡ word_from (k + 1) (w + 2 ^ k) s
word_letter k s n w l h = word_more (letter_byte k) s n w k (letter_of_byte k h) l

-- a word's low part takes in one bit more
low_next : (v n : ℕ) → v % 2 ^ (n + 1) ≡ bit v n * 2 ^ n + v % 2 ^ n
unfolding bit
low_next v n = ap (λ (k : ℕ). v % 2 ^ k) (add_comm n 1) ∙ mod-pow-add v 1 n

low_on : (v n : ℕ) → bit v n ≡ 1 → v % 2 ^ n + 2 ^ n ≡ v % 2 ^ (n + 1)
low_on v n b = omega (arith, low_next v n ∙ ap (λ (k : ℕ). k * 2 ^ n + v % 2 ^ n) b)

low_off : (v n : ℕ) → bit v n ≡ 0 → v % 2 ^ n ≡ v % 2 ^ (n + 1)
low_off v n b = omega (arith, low_next v n ∙ ap (λ (k : ℕ). k * 2 ^ n + v % 2 ^ n) b)

-- the letters from type n on are read to the word, where the types before n have been
word_of_letters : (types n m v : ℕ) → n + types ≡ letters → m ≤ n → v < 2 ^ letters → 0 < v → word_from m (v % 2 ^ n) (letters_from types n v) ≡ Some v
unfolding letters_from
word_of_letters zero n m v e l h p =
    let q : n ≡ letters = omega arith in
    ap (λ (k : ℕ). word_from m (v % 2 ^ k) []) q ∙ ap (λ (x : ℕ). word_from m x []) (mod-eq_of_lt h) ∙ word_done m v p
word_of_letters (suc types) n m v e l h p =
    either_is (bit v n) 1
    (λ b. ap (λ (x : List ℕ). word_from m (v % 2 ^ n) (x ++ letters_from types (n + 1) v)) (letter_on v n b)
    ∙ word_letter n (letters_from types (n + 1) v) m (v % 2 ^ n) l (omega arith)
    ∙ ap (λ (w : ℕ). word_from (n + 1) w (letters_from types (n + 1) v)) (low_on v n b)
    ∙ word_of_letters types (n + 1) (n + 1) v (omega arith) (omega arith) h p)
    (λ b. let z : bit v n ≡ 0 = omega (arith, bit_lt v n) in
    ap (λ (x : List ℕ). word_from m (v % 2 ^ n) (x ++ letters_from types (n + 1) v)) (letter_off v n z)
    ∙ ap (λ (w : ℕ). word_from m w (letters_from types (n + 1) v)) (low_off v n z)
    ∙ word_of_letters types (n + 1) m v (omega arith) (omega arith) h p)

pub word_letters : (w : ℕ) → 0 < w → w < 2 ^ letters → word_of (letters_of w) ≡ Some w
word_letters w p h =
    let z : 0 ≡ w % 2 ^ 0 = omega arith in
    ap (λ (x : ℕ). word_from 0 x (letters_of w)) z ∙ word_of_letters letters 0 0 w (omega arith) (omega arith) h p

-- types that do not occur are passed over
letters_skip : (gap types from n to v : ℕ) → from ≡ gap + types → to ≡ n + gap → ((i : ℕ) → n ≤ i → i < to → bit v i ≡ 0)
    → letters_from from n v ≡ letters_from types to v
unfolding letters_from
letters_skip zero types from n to v p q h =
    let a : from ≡ types = omega arith in let b : n ≡ to = omega arith in ap₂ (λ (x y : ℕ). letters_from x y v) a b
letters_skip (suc gap) types from n to v p q h =
    let a : from ≡ suc (gap + types) = omega arith in
    ap (λ (x : ℕ). letters_from x n v) a
    ∙ ap (λ (x : List ℕ). x ++ letters_from (gap + types) (n + 1) v) (letter_off v n (h n (omega arith) (omega arith)))
    ∙ letters_skip gap types (gap + types) (n + 1) to v refl (omega arith) (λ i l g. h i (omega arith) g)

letters_none : (types n w : ℕ) → w < 2 ^ n → letters_from types n w ≡ []
unfolding letters_from
letters_none types n w h = letters_skip types 0 types n (n + types) w (omega arith) refl (λ i l g. bit_high w n i h l)

-- the bit of type n was added to a word of types before n
low_set : (v n w : ℕ) → w < 2 ^ n → v % 2 ^ (n + 1) ≡ w + 2 ^ n → (bit v n ≡ 1) × (v % 2 ^ n ≡ w)
low_set v n w h e =
    either_is (bit v n) 1 (λ b. (b, omega (arith, low_on v n b)))
    (λ b. absurd (omega (arith, low_off v n (omega (arith, bit_lt v n)), mod-lt v (pow_pos n))))

-- s has the letters of v from type n on; those before it make w
pub record Suffix (s : List ℕ) (n w v : ℕ) : Type 0 where
  pub same : s ≡ letters_from (letters - n) n v
  pub fits : v < 2 ^ letters
  pub low : v % 2 ^ n ≡ w
  pub some : 0 < v

suffix_end : (n w v : ℕ) → w ≡ v → 0 < w → w < 2 ^ n → n ≤ letters → Suffix [] n w v
suffix_end n w v e p h l = record {
  same = sym (letters_none (letters - n) n v (omega arith));
  fits = omega (arith, pow_mono l);
  low = mod-eq_of_lt (omega arith) ∙ sym e;
  some = omega arith;
}

suffix_more : (c : ℕ) (s : List ℕ) (k n w v : ℕ) → letter_of c ≡ Some k → n ≤ k → w < 2 ^ n
    → Suffix s (k + 1) (w + 2 ^ k) v → Suffix (c ∷ s) n w v
unfolding letters_from
suffix_more c s k n w v q l lt f = record { same = whole; fits = f.fits; low = below; some = f.some }
  where
    byte : (k < letters) × (letter_byte k ≡ c)
    byte = byte_letter c k q

    set : (bit v k ≡ 1) × (v % 2 ^ k ≡ w)
    set = low_set v k w (lt_of_lt_of_le lt (pow_mono l)) f.low

    off : (i : ℕ) → n ≤ i → i < k → bit v i ≡ 0
    off i a b = sym (bit_low v k i b) ∙ ap (λ (x : ℕ). bit x i) set.1 ∙ bit_high w n i lt a

    here : letters_from (suc (letters - (k + 1))) k v ≡ letter_byte k ∷ letters_from (letters - (k + 1)) (k + 1) v
    here = ap (λ (x : List ℕ). x ++ letters_from (letters - (k + 1)) (k + 1) v) (letter_on v k set.0)

    whole : c ∷ s ≡ letters_from (letters - n) n v
    whole =
        ap₂ (λ (x : ℕ) (y : List ℕ). x ∷ y) (sym byte.1) f.same ∙ sym here
        ∙ sym (letters_skip (k - n) (suc (letters - (k + 1))) (letters - n) n k v (omega (arith, byte.0)) (omega arith) off)

    below : v % 2 ^ n ≡ w
    below =
        let e : k - n + n ≡ k = omega arith in
        sym (mod-mod-pow v (k - n) n) ∙ ap (λ (x : ℕ). v % 2 ^ x % 2 ^ n) e ∙ ap (λ (x : ℕ). x % 2 ^ n) set.1 ∙ mod-eq_of_lt lt

-- the word with one type more still holds only types below the next one
pub word_fits : (n k w : ℕ) → n ≤ k → w < 2 ^ n → w + 2 ^ k < 2 ^ (k + 1)
word_fits n k w l h = omega (arith, pow-add 2 k 1, pow_mono l)

-- a type's bit, as the code computes it
pub bit_shifted : (k : ℕ) → k < letters → 1 * 2 ^ k % 2 ^ letters ≡ 2 ^ k
bit_shifted k h = shl_exact 1 k letters (omega arith) (omega arith) ∙ one-mul (2 ^ k)

-- the sum is still a word of 32 bits
pub word_sum : (n k w : ℕ) → n ≤ k → k < letters → w < 2 ^ n → w + 1 * 2 ^ k % 2 ^ letters < 2 ^ letters
word_sum n k w l h lt =
    let top : k + 1 ≤ letters = omega arith in
    omega (arith, bit_shifted k h, word_fits n k w l lt, pow_mono top)

-- what was read is the word's letters
word_sound : (s : List ℕ) (n w v : ℕ) → word_from n w s ≡ Some v → w < 2 ^ n → n ≤ letters → Suffix s n w v
word_sound [] n w v e h l =
    either_way 0 w
    (λ p. suffix_end n w v (same_Some _ _ (sym (word_done n w p) ∙ e)) p h l)
    (λ p. absurd (none-some v (sym (word_empty n w (omega arith)) ∙ e)))
word_sound (c ∷ s) n w v e h l =
    by_option (λ o. Suffix (c ∷ s) n w v) (letter_of c)
    (λ k q. either_way k n
    (λ a. absurd (none-some v (sym (word_low c s n w k q a) ∙ e)))
    (λ a. suffix_more c s k n w v q a h
    (word_sound s (k + 1) (w + 2 ^ k) v (sym (word_more c s n w k q a) ∙ e) (word_fits n k w a h) (omega (arith, byte_letter c k q)))))
    (λ q. absurd (none-some v (sym (word_other c s n w q) ∙ e)))

pub letters_word : (s : List ℕ) (w : ℕ) → word_of s ≡ Some w → (s ≡ letters_of w) × (w < 2 ^ letters) × (0 < w)
letters_word s w e = let f = word_sound s 0 0 w e (omega arith) (omega arith) in (f.same, f.fits, f.some)

-- there are at most as many letters as types
pub letters_length : (types n w : ℕ) → length (letters_from types n w) ≤ types
unfolding letters_from
letters_length zero n w = omega arith
letters_length (suc types) n w =
    either_is (bit w n) 1
    (λ b. rw (letter_on w n b) (omega (arith, letters_length types (n + 1) w)))
    (λ b. rw (letter_off w n (omega (arith, bit_lt w n))) (omega (arith, letters_length types (n + 1) w)))
