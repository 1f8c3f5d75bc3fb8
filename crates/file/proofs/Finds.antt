-- A turn of the search for a name in a sound file, and each way out. Assumes nothing.
use Rattle.std.specs.Prelude.{Err, None, Ok, Option, Some}
use Prim.Native.Nat.{ℕ, ◌+◌, ◌-◌, ◌*◌, ◌≤◌, ◌<◌}
use mathlib.Core.Path.{◌≡◌, sym, ap₂, ◌∙◌}
use mathlib.Core.Bool.{true, false, cond}
use mathlib.Core.List.{List, [], ◌∷◌}
use native.Mathlib.Omega.{arith}
use lib.ListN.{length, get_or, take, drop}
use lib.Seq.{drop-drop}
use borrow.Author.Tests.{lt-ltb, le-leb}
use Rattle.rules.proofs.Lists.{drop_part}
use Rattle.rules.proofs.Impossible.{impossible}
use Rattle.refusal.specs.declared.Refusal.{Refusal}
use Rattle.body.proofs.Scan.{left_suc, left_zero}
use Rattle.file.specs.declared.Whose.TheVariants.{Site, Fleet}
use Rattle.file.specs.declared.LookupError.TheVariants.{Absent, Broken}
use Rattle.file.specs.declared.Place.{Place}
use Rattle.file.specs.Contents.{name_bytes, contents_bytes, bodies_at}
use Rattle.file.specs.Check.{file_check}
use Rattle.file.specs.Place.{place_in, pattern_count, body_place}
use Rattle.file.specs.Lookup.{same, seek, placed, in_file, finding_of}
use Rattle.file.proofs.Checks.{rest_sound}

-- a sound file has a count
pub sound_long : (file : List ℕ) → file_check file ≡ Ok tt → 1 + contents_bytes * get_or file 0 0 ≤ length file
unfolding file_check
sound_long [] p = impossible cc
sound_long (x ∷ f) p = omega (arith, (rest_sound x f p).held)

-- the name is not among the first i entries of a file's contents
pub record Sought (file name : List ℕ) (count i : ℕ) : Type 0 where
  pub held : 1 + contents_bytes * count ≤ length file
  pub rest : seek (drop (1 + contents_bytes * i) file) name (count - i) ≡ placed file name

module _ {file name : List ℕ} {count i : ℕ} (k : Sought file name count i) (h : i < count) where
  abbrev at : ℕ
  at = 1 + contents_bytes * i

  seek_turn : seek (drop at file) name (count - i)
      ≡ cond (same (take (at + name_bytes - at) (drop at file)) name)
      (Some (place_in (take (length file - at) (drop at file))))
      (seek (drop (1 + contents_bytes * (i + 1)) file) name (count - (i + 1)))
  unfolding seek
  seek_turn =
      let long : at + name_bytes - at ≡ name_bytes = omega arith in
      let next : at + contents_bytes ≡ 1 + contents_bytes * (i + 1) = omega arith in
      rw (left_suc count i h, long, drop_part file at, drop-drop contents_bytes at file, next)

  pub sought_here : same (take (1 + contents_bytes * i + name_bytes - (1 + contents_bytes * i)) (drop (1 + contents_bytes * i) file)) name ≡ true
      → Some (place_in (take (length file - (1 + contents_bytes * i)) (drop (1 + contents_bytes * i) file))) ≡ placed file name
  sought_here p = rw (seek_turn, p) at k.rest

  pub sought_more : same (take (1 + contents_bytes * i + name_bytes - (1 + contents_bytes * i)) (drop (1 + contents_bytes * i) file)) name ≡ false → Sought file name count (i + 1)
  sought_more p = record { held = k.held; rest = rw (seek_turn, p) at k.rest }

pub sought_all : {file name : List ℕ} {count i : ℕ} → Sought file name count i → count ≤ i → None ≡ placed file name
unfolding seek
sought_all {count = count} {i = i} k h = rw (left_zero count i h) at k.rest

-- where body number i is
pub body_here : (f : List ℕ) (i : ℕ) → i < pattern_count f → bodies_at (i + 1) ≤ length f → Some (place_in (drop (bodies_at i) f)) ≡ body_place f i
unfolding body_place
body_here f i h k = rw (lt-ltb i (pattern_count f) h, le-leb (bodies_at (i + 1)) (length f) k)

-- the answer of a lookup, one law for each way out
module _ (site fleet name : List ℕ) where
  pub finding_site_broken : (r : Refusal) → file_check site ≡ Err r → Err (Broken Site r) ≡ finding_of site fleet name
  unfolding finding_of
  finding_site_broken r p = rw p

  module _ (p : file_check site ≡ Ok tt) where
    pub finding_fleet_broken : (r : Refusal) → file_check fleet ≡ Err r → Err (Broken Fleet r) ≡ finding_of site fleet name
    unfolding finding_of
    finding_fleet_broken r q = rw (p, q)

    module _ (q : file_check fleet ≡ Ok tt) where
      pub finding_places : in_file (placed site name) Site (in_file (placed fleet name) Fleet (Err Absent)) ≡ finding_of site fleet name
      unfolding finding_of
      finding_places = rw (p, q)

      pub finding_by : (a b : Option Place) → placed site name ≡ a → placed fleet name ≡ b
          → in_file a Site (in_file b Fleet (Err Absent)) ≡ finding_of site fleet name
      finding_by a b s t = ap₂ (λ (x y : Option Place). in_file x Site (in_file y Fleet (Err Absent))) (sym s) (sym t) ∙ finding_places
