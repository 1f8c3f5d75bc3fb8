-- The tests of the parts and of a file: each way out, and what an answer says of each test. Assumes nothing.
use Rattle.std.specs.Prelude.{None, Ok, Option, Result, Some}
use Rattle.std.proofs.lemmas.Bool.Decides.{nat_tests}
use Prim.Native.Nat.{ℕ, zero, suc, ◌+◌, ◌*◌, ◌≤◌}
use mathlib.Core.Path.{◌≡◌, refl, ap}
use mathlib.Core.Bool.{true}
use mathlib.Core.List.{List, [], ◌∷◌}
use native.Mathlib.Omega.{arith}
use lib.ListN.{length, get_or, take, drop}
use Rattle.rules.proofs.Impossible.{impossible}
use Rattle.rules.specs.Limits.{most_entries, most_patterns}
use Rattle.refusal.specs.declared.Refusal.{Refusal}
use Rattle.body.specs.Bytes.{value_at}
use Rattle.file.specs.Contents.{body_bytes, name_bytes, contents_bytes, bodies_at, total}
use Rattle.file.specs.Check.{entry_kept, broken_entry, broken_body, on_entry, bodies_check, parts_check}
use Rattle.file.specs.Check.{counts_in, content_kept, broken_content, rest_check, file_check}
use Rattle.file.specs.Judged.{EntryRight}

-- a sound answer: no entry breaks a rule, and the rest is sound
entry_sound : (o : Option ℕ) (rest : Result (Unit {0}) Refusal) → on_entry o rest ≡ Ok tt → (o ≡ None) × (rest ≡ Ok tt)
entry_sound None rest p = (refl, p)
entry_sound (Some i) rest p = impossible cc

pub record BodiesSound (counts bodies : List ℕ) : Type 0 where
  pub full : length bodies ≡ total counts
  pub unbroken : broken_body counts bodies 0 ≡ Ok tt

pub record PartsSound (names counts bodies : List ℕ) : Type 0 where
  pub least : 1 ≤ length counts
  pub most : length counts ≤ most_patterns
  pub full : length names ≡ name_bytes * length counts
  pub kept : broken_entry [] names counts 0 ≡ None
  pub valid : BodiesSound counts bodies

pub parts_sound : (names counts bodies : List ℕ) → parts_check names counts bodies ≡ Ok tt → PartsSound names counts bodies
unfolding parts_check bodies_check
parts_sound names counts bodies p = grind (arith, nat_tests, entry_sound)

pub sound_parts : (names counts bodies : List ℕ) → PartsSound names counts bodies → parts_check names counts bodies ≡ Ok tt
unfolding parts_check bodies_check
sound_parts names counts bodies s = grind (arith, nat_tests)

pub record RestSound (count : ℕ) (f : List ℕ) : Type 0 where
  pub least : 1 ≤ count
  pub most : count ≤ most_patterns
  pub held : contents_bytes * count ≤ length f
  pub kept : broken_content [] f count (bodies_at count) 0 ≡ None
  pub valid : BodiesSound (counts_in f count) (drop (contents_bytes * count) f)

pub rest_sound : (count : ℕ) (f : List ℕ) → rest_check count f ≡ Ok tt → RestSound count f
unfolding rest_check bodies_check
rest_sound count f p = grind (arith, nat_tests, entry_sound)

pub sound_rest : (count : ℕ) (f : List ℕ) → RestSound count f → rest_check count f ≡ Ok tt
unfolding rest_check bodies_check
sound_rest count f s = grind (arith, nat_tests)

-- a file by its count
pub check_rest : (f : List ℕ) → file_check f ≡ rest_check (get_or f 0 0) (drop 1 f)
unfolding file_check rest_check
check_rest [] = refl
check_rest (x ∷ f) = refl

-- the test of an entry passes exactly if the entry keeps its rules
pub entry_kept_right : (before name : List ℕ) (n : ℕ) → entry_kept before name n ≡ true → EntryRight before name n
unfolding entry_kept
entry_kept_right before name n p = grind (arith, nat_tests)

pub right_kept : (before name : List ℕ) (n : ℕ) → EntryRight before name n → entry_kept before name n ≡ true
unfolding entry_kept
right_kept before name n k = grind (arith, nat_tests)

-- no entry breaks a rule: neither the first nor one of those after it
pub entries_first : (before names : List ℕ) (n : ℕ) (counts : List ℕ) (i : ℕ) → broken_entry before names (n ∷ counts) i ≡ None
    → (entry_kept before (take name_bytes names) n ≡ true) × (broken_entry (take name_bytes names) (drop name_bytes names) counts (i + 1) ≡ None)
unfolding broken_entry
entries_first before names n counts i p = grind (arith, nat_tests)

pub entries_small : (before names counts : List ℕ) (i : ℕ) → broken_entry before names counts i ≡ None → (k : ℕ) → get_or counts k 0 ≤ most_entries
entries_small before names [] i p k = omega arith
entries_small before names (n ∷ counts) i p zero = (entry_kept_right _ _ n (entries_first before names n counts i p).0).most
entries_small before names (n ∷ counts) i p (suc k) =
    entries_small (take name_bytes names) (drop name_bytes names) counts (i + 1) (entries_first before names n counts i p).1 k

-- the same for an entry of the contents of a file
pub record ContentKept (before c : List ℕ) (offset : ℕ) : Type 0 where
  pub entry : entry_kept before (take name_bytes c) (get_or c 10 0) ≡ true
  pub begins : value_at 2 c 8 ≡ offset
  pub zeros : get_or c 11 0 ≡ 0

pub content_kept_right : (before c : List ℕ) (offset : ℕ) → content_kept before c offset ≡ true → ContentKept before c offset
unfolding content_kept
content_kept_right before c offset p = grind (arith, nat_tests)

pub contents_first : (before c : List ℕ) (k offset i : ℕ) → broken_content before c (suc k) offset i ≡ None
    → (content_kept before c offset ≡ true)
    × (broken_content (take name_bytes c) (drop contents_bytes c) k (offset + body_bytes (get_or c 10 0)) (i + 1) ≡ None)
unfolding broken_content
contents_first before c k offset i p = grind (arith, nat_tests)

pub length_counts : (c : List ℕ) (k : ℕ) → length (counts_in c k) ≡ k
unfolding counts_in
length_counts c zero = refl
length_counts c (suc k) = ap suc (length_counts (drop contents_bytes c) k)
