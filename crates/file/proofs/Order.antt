-- Names that rise strictly in byte order are different, and a search finds each where it stands. Assumes nothing.
use Rattle.std.specs.Prelude.{None, Some}
use Rattle.std.proofs.lemmas.Slice.Eq.{bytes_eq-Decides}
use Rattle.std.proofs.lemmas.Bool.Decides.{nat_tests}
use Prim.Native.Nat.{ℕ, zero, suc, ◌+◌, ◌*◌, ◌<◌}
use mathlib.Core.Path.{◌≡◌, refl, sym, ap, ◌∙◌}
use mathlib.Core.Bool.{Bool, true, false, cond}
use mathlib.Core.Logic.{◌⊎◌, ⊎_elim}
use mathlib.Core.List.{List, [], ◌∷◌, ◌++◌}
use native.Mathlib.Decide.{dec_lt}
use native.Mathlib.Omega.{arith}
use lib.ListN.{length, get_or, take, drop, length-drop}
use lib.Seq.{length-take-le}
use Rattle.rules.proofs.Impossible.{impossible}
use Rattle.file.specs.Contents.{below, body_bytes, name_bytes, name_of, contents, total}
use Rattle.file.specs.Check.{broken_entry}
use Rattle.file.specs.Place.{place_at}
use Rattle.file.specs.Lookup.{same, seek}
use Rattle.file.proofs.Checks.{entries_first, entry_kept_right}
use Rattle.file.proofs.Files.{name_next, contents_cons, head_name, head_rest, head_count, head_offset}

-- byte order by the first bytes
below_cases : (a b : ℕ) (l m : List ℕ) → below (a ∷ l) (b ∷ m) ≡ true → (a < b) ⊎ ((a ≡ b) × (below l m ≡ true))
unfolding below
below_cases a b l m p = grind (arith, nat_tests)

below_first : (a b : ℕ) (l m : List ℕ) → a < b → below (a ∷ l) (b ∷ m) ≡ true
unfolding below
below_first a b l m h = grind (arith, nat_tests)

below_next : (a b : ℕ) (l m : List ℕ) → a ≡ b → below l m ≡ true → below (a ∷ l) (b ∷ m) ≡ true
unfolding below
below_next a b l m e h = grind (arith, nat_tests)

pub below_trans : (l m n : List ℕ) → below l m ≡ true → below m n ≡ true → below l n ≡ true
unfolding below
below_trans [] [] n p q = impossible cc
below_trans l (b ∷ m) [] p q = impossible cc
below_trans [] (b ∷ m) (c ∷ n) p q = refl
below_trans (a ∷ l) [] n p q = impossible cc
below_trans (a ∷ l) (b ∷ m) (c ∷ n) p q =
    ⊎_elim
    (λ h. ⊎_elim (λ k. below_first a c l n (omega arith)) (λ k. below_first a c l n (omega (arith, k.0))) (below_cases b c m n q))
    (λ h. ⊎_elim
    (λ k. below_first a c l n (omega (arith, h.0)))
    (λ k. below_next a c l n (h.0 ∙ k.0) (below_trans l m n h.1 k.1))
    (below_cases b c m n q))
    (below_cases a b l m p)

pub below_self : (l : List ℕ) → below l l ≡ true → ⊥
unfolding below
below_self [] p = impossible cc
below_self (a ∷ l) p = ⊎_elim (λ h. omega arith) (λ h. below_self l h.1) (below_cases a a l l p)

-- each name stands after the one before all, and after each lower one
above : (before names counts : List ℕ) (k : ℕ) → broken_entry before names counts k ≡ None
    → (i : ℕ) → i < length counts → below before (name_of names i) ≡ true
above before names [] k p i h = absurd (omega arith)
above before names (n ∷ counts) k p zero h = (entry_kept_right before (take name_bytes names) n (entries_first before names n counts k p).0).rises
above before names (n ∷ counts) k p (suc i) h =
    let first = entries_first before names n counts k p in
    let name : List ℕ = take name_bytes names in
    rw (name_next names i)
    (below_trans before name (name_of (drop name_bytes names) i) (entry_kept_right before name n first.0).rises
    (above name (drop name_bytes names) counts (k + 1) first.1 i (omega arith)))

pub names_rise : (before names counts : List ℕ) (k : ℕ) → broken_entry before names counts k ≡ None
    → (i j : ℕ) → i < j → j < length counts → below (name_of names i) (name_of names j) ≡ true
names_rise before names [] k p i j h l = absurd (omega arith)
names_rise before names (n ∷ counts) k p i zero h l = absurd (omega arith)
names_rise before names (n ∷ counts) k p zero (suc j) h l =
    rw (name_next names j)
    (above (take name_bytes names) (drop name_bytes names) counts (k + 1) (entries_first before names n counts k p).1 j (omega arith))
names_rise before names (n ∷ counts) k p (suc i) (suc j) h l =
    rw (name_next names i, name_next names j)
    (names_rise (take name_bytes names) (drop name_bytes names) counts (k + 1) (entries_first before names n counts k p).1 i j (omega arith)
    (omega arith))

-- so names that are the same stand at one place
pub names_differ : (names counts : List ℕ) → broken_entry [] names counts 0 ≡ None
    → (i j : ℕ) → i < j → j < length counts → name_of names i ≡ name_of names j → ⊥
names_differ names counts p i j h l e =
    below_self (name_of names j) (sym (ap (λ (x : List ℕ). below x (name_of names j)) e) ∙ names_rise [] names counts 0 p i j h l)

pub name_once : (names counts : List ℕ) → broken_entry [] names counts 0 ≡ None
    → (i j : ℕ) → i < length counts → j < length counts → name_of names i ≡ name_of names j → i ≡ j
name_once names counts p i j h l e = go (dec_lt i j) (dec_lt j i)
  where
    go : Dec (i < j) → Dec (j < i) → i ≡ j
    go (yes a) d = absurd (names_differ names counts p i j a l e)
    go (no a) (yes b) = absurd (names_differ names counts p j i b h (sym e))
    go (no a) (no b) = omega arith

-- the test of bytes is exact
pub same_self : (l : List ℕ) → same l l ≡ true
same_self l = (bytes_eq-Decides l l).1 refl

pub same_true : (l m : List ℕ) → same l m ≡ true → l ≡ m
same_true l m = (bytes_eq-Decides l m).0

same_false : (l m : List ℕ) → (l ≡ m → ⊥) → same l m ≡ false
same_false l m h = go (same l m) refl
  where
    go : (t : Bool) → same l m ≡ t → same l m ≡ false
    go true p = absurd (h (same_true l m p))
    go false p = p

-- a search passes the entries with other names, and stops at the name
module _ (rest name : List ℕ) where
  seek_cons : (names : List ℕ) (n : ℕ) (counts : List ℕ) (offset : ℕ) → length names ≡ name_bytes * suc (length counts) → offset < 65536
      → seek (contents names (n ∷ counts) offset ++ rest) name (suc (length counts))
      ≡ cond (same (take name_bytes names) name) (Some (place_at offset (body_bytes n)))
      (seek (contents (drop name_bytes names) counts (offset + body_bytes n) ++ rest) name (length counts))
  unfolding seek
  seek_cons names n counts offset h l =
      let first : List ℕ = take name_bytes names in
      let more : List ℕ = contents (drop name_bytes names) counts (offset + body_bytes n) ++ rest in
      let long : length first ≡ name_bytes = length-take-le name_bytes names (omega arith) in
      rw (
        contents_cons rest names n counts offset,
        head_name first more offset n long,
        head_offset first more offset n long l,
        head_count first more offset n long,
        head_rest first more offset n long,
      )

  pub seek_nowhere : (names counts : List ℕ) (offset : ℕ) → length names ≡ name_bytes * length counts → offset + total counts < 65536
      → ((j : ℕ) → j < length counts → name_of names j ≡ name → ⊥) → seek (contents names counts offset ++ rest) name (length counts) ≡ None
  unfolding total
  seek_nowhere names [] offset h l f = unfold seek in refl
  seek_nowhere names (n ∷ counts) offset h l f =
      seek_cons names n counts offset h (omega arith)
      ∙ rw (same_false (take name_bytes names) name (f 0 (omega arith)))
      (seek_nowhere (drop name_bytes names) counts (offset + body_bytes n) (omega (arith, length-drop name_bytes names)) (omega arith)
      (λ j k e. f (suc j) (omega arith) (name_next names j ∙ e)))

  pub seek_there : (names counts : List ℕ) (offset i : ℕ) → length names ≡ name_bytes * length counts → offset + total counts < 65536
      → i < length counts
      → ((j : ℕ) → j < i → name_of names j ≡ name → ⊥) → name_of names i ≡ name
      → seek (contents names counts offset ++ rest) name (length counts) ≡ Some (place_at (offset + total (take i counts)) (body_bytes (get_or counts i 0)))
  unfolding total
  seek_there names [] offset i h l k f e = absurd (omega arith)
  seek_there names (n ∷ counts) offset zero h l k f e =
      let z : offset ≡ offset + 0 = omega arith in
      seek_cons names n counts offset h (omega arith)
      ∙ rw (e, same_self name) (ap (λ (o : ℕ). Some (place_at o (body_bytes n))) z)
  seek_there names (n ∷ counts) offset (suc i) h l k f e =
      let z : offset + body_bytes n + total (take i counts) ≡ offset + (body_bytes n + total (take i counts)) = omega arith in
      seek_cons names n counts offset h (omega arith)
      ∙ rw (same_false (take name_bytes names) name (f 0 (omega arith)))
      (seek_there (drop name_bytes names) counts (offset + body_bytes n) i (omega (arith, length-drop name_bytes names)) (omega arith) (omega arith)
      (λ j b q. f (suc j) (omega arith) (name_next names j ∙ q)) (sym (name_next names i) ∙ e)
      ∙ ap (λ (o : ℕ). Some (place_at o (body_bytes (get_or counts i 0)))) z)
