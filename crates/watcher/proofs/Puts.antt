-- Words put one after the other, for a loop; and the words of an opened state, put together. Assumes nothing.
use mathlib.Core.Path.{◌≡◌, refl, sym, ap, subst, ◌∙◌}
use mathlib.Core.Logic.{◌⊎◌, inl, inr, ⊎_elim}
use mathlib.Core.List.{List}
use Prim.Native.Nat.{ℕ, ◌+◌, ◌-◌, ◌/◌, ◌^◌, ◌≤◌, ◌<◌}
use native.Mathlib.Decide.{ℕ_discrete, dec_lt}
use native.Mathlib.Omega.{arith}
use Rattle.std.proofs.Common.{rules}
use Rattle.std.proofs.lemmas.List.{places}
use borrow.Rule.Slice.PartMut.{put_mid}
use lib.ListN.{replicate, get_or, set, length, length-set}
use lib.Seq.{ext_get_or, get_or-drop, get_or-set_same, get_or-set_other}
use Rattle.rules.specs.Limits.{argument_bytes}
use Rattle.body.specs.declared.Entry.{Entry}
use Rattle.body.specs.declared.Entry.TheVariants.{Letter, Pair, Within, Wrong}
use Rattle.body.specs.Entry.{entry_at}
use Rattle.body.proofs.Entries.{Fits, read_fits}
use Rattle.watcher.specs.inner.Walk.{cells_needed, words_needed, words_opened}
use Rattle.watcher.specs.inner.Form.{Narrow, Put, words_of, zeros}
use Rattle.watcher.proofs.Opens.{opened_count, opened_next, opened_entry, opened_zero, opened_beyond, length_opened}

-- j of the n words are put
pub record Putting (v : ℕ → ℕ) (from n : ℕ) (old new : List ℕ) (j : ℕ) : Type 0 where
  pub long : length new ≡ length old
  pub put : Put v from j old new

pub putting_none : (v : ℕ → ℕ) (from n : ℕ) (old : List ℕ) → Putting v from n old old 0
putting_none v from n old = record {
  long = refl;
  put = record { words = λ j h. absurd (omega arith); kept = λ j h. refl };
}

pub putting_more : (v : ℕ → ℕ) (from n : ℕ) (old new : List ℕ) (j a : ℕ) → from + n ≤ length old → j < n → Putting v from n old new j → a ≡ v j
    → Putting v from n old (set new (from + j) a) (j + 1)
putting_more v from n old new j a room h p e = record {
  long = length-set new (from + j) a ∙ p.long;
  put = record {
    words = λ k l. at k l (ℕ_discrete k j);
    kept = λ k l. get_or-set_other new (from + j) k a 0 (apart k l) ∙ p.put.kept k (⊎_elim (λ m. inl m) (λ m. inr (omega arith)) l);
  };
}
  where
    apart : (k : ℕ) → ((k < from) ⊎ (from + (j + 1) ≤ k)) → k ≡ from + j → ⊥
    apart k (inl l) q = omega arith
    apart k (inr l) q = omega arith

    at : (k : ℕ) → k < j + 1 → Dec (k ≡ j) → get_or (set new (from + j) a) (from + k) 0 ≡ v k
    at k l (yes q) = rw (q, get_or-set_same new (from + j) a 0 (omega (arith, p.long))) e
    at k l (no q) = get_or-set_other new (from + j) (from + k) a 0 (λ z. q (omega arith)) ∙ p.put.words k (omega arith)

pub putting_all : (v : ℕ → ℕ) (from n : ℕ) (old new : List ℕ) (j : ℕ) → j ≡ n → Putting v from n old new j → Put v from n old new
putting_all v from n old new j h p = record {
  words = λ k l. p.put.words k (omega arith);
  kept = λ k l. p.put.kept k (⊎_elim (λ m. inl m) (λ m. inr (omega arith)) l);
}

-- what is read from a body fits a word
fits_narrow : (s : Entry) → Fits (Unit {0}) (256 ^ argument_bytes) s → Narrow s
fits_narrow (Letter n) h = omega arith
fits_narrow (Pair op) h = tt
fits_narrow (Within n) h = omega arith
fits_narrow Wrong h = tt

pub read_narrow : (b : List ℕ) (i : ℕ) → Narrow (entry_at argument_bytes b i)
read_narrow b i = fits_narrow (entry_at argument_bytes b i) (read_fits argument_bytes b i)

-- the number of entries, no tick yet, the entries, zeros, and the words beyond as they were: these are an opened state's
module _ (b old s₁ s₂ : List ℕ) (n cells : ℕ) (count : n ≡ length b / (argument_bytes + 1)) (sum : cells ≡ cells_needed b)
    (room : 2 + n + cells ≤ length old) (long : length s₂ ≡ length old)
    (entries : Put (words_of b) 2 n (set (set old 0 n) 1 0) s₁) (empty : Put zeros (2 + n) cells s₁ s₂) where
  needed : words_needed b ≡ 2 + n + cells
  unfolding words_needed
  needed = omega arith

  before : (j : ℕ) → j < 2 + n → get_or s₂ j 0 ≡ get_or s₁ j 0
  before j h = empty.kept j (inl h)

  word : (j : ℕ) → get_or s₂ j 0 ≡ get_or (words_opened b old) j 0
  word j = go (ℕ_discrete j 0) (ℕ_discrete j 1) (dec_lt j (2 + n)) (dec_lt j (2 + n + cells))
    where
      go : Dec (j ≡ 0) → Dec (j ≡ 1) → Dec (j < 2 + n) → Dec (j < 2 + n + cells) → get_or s₂ j 0 ≡ get_or (words_opened b old) j 0
      go (yes e) d f g = rw e (
          before 0 (omega arith) ∙ entries.kept 0 (inl (omega arith)) ∙ get_or-set_other (set old 0 n) 1 0 0 0 (λ z. omega arith)
          ∙ get_or-set_same old 0 n 0 (omega arith) ∙ count ∙ sym (opened_count b old))
      go (no x) (yes e) f g = rw e (
          before 1 (omega arith) ∙ entries.kept 1 (inl (omega arith)) ∙ get_or-set_same (set old 0 n) 1 0 0 (omega (arith, length-set old 0 n))
          ∙ sym (opened_next b old))
      go (no x) (no y) (yes h) g =
          let e : 2 + (j - 2) ≡ j = omega arith in
          before j h
          ∙ subst (λ (i : ℕ). get_or s₁ i 0 ≡ get_or (words_opened b old) i 0) e
          (entries.words (j - 2) (omega arith) ∙ sym (opened_entry b old (j - 2) (omega arith)))
      go (no x) (no y) (no z) (yes h) =
          let k : ℕ = j - (2 + n) in
          let e : 2 + n + k ≡ j = omega arith in
          let e' : 2 + length b / (argument_bytes + 1) + k ≡ j = omega arith in
          subst (λ (i : ℕ). get_or s₂ i 0 ≡ 0) e (empty.words k (omega arith))
          ∙ sym (subst (λ (i : ℕ). get_or (words_opened b old) i 0 ≡ 0) e' (opened_zero b old k (omega arith)))
      go (no x) (no y) (no z) (no h) =
          let k : ℕ = j - words_needed b in
          let e : words_needed b + k ≡ j = omega (arith, needed) in
          empty.kept j (inr (omega arith)) ∙ entries.kept j (inr (omega arith))
          ∙ get_or-set_other (set old 0 n) 1 j 0 0 y ∙ get_or-set_other old 0 j n 0 x
          ∙ subst (λ (i : ℕ). get_or old i 0 ≡ get_or (words_opened b old) i 0) e
          (sym (get_or-drop (words_needed b) old k 0) ∙ ap (λ (l : List ℕ). get_or l k 0) (sym (opened_beyond b old))
          ∙ get_or-drop (words_needed b) (words_opened b old) k 0)

  pub opened_same : s₂ ≡ words_opened b old
  opened_same = ext_get_or 0 s₂ (words_opened b old) (long ∙ sym (length_opened b old (omega (arith, needed)))) (λ j h. word j)

-- a part of a slice that is made zero
pub put_zeros : (a k n : ℕ) (xs ys : List ℕ) → a + n ≤ length xs → k ≡ n → ys ≡ replicate n 0 → Put zeros a n xs (put_mid a k xs ys)
put_zeros a k n xs ys h e z = record {
  words = λ j l. search (rules, places);
  kept = λ j l. ⊎_elim (λ m. search (rules, places)) (λ m. search (rules, places)) l;
}
