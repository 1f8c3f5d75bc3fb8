-- What a search in a sound file finds lies in the file and is a valid body: an entry's offset is where its body begins. Assumes nothing.
use Rattle.std.specs.Prelude.{Err, None, Ok, Option, Result, Some}
use Prim.Native.Nat.{ℕ, zero, suc, ◌+◌, ◌*◌, ◌≤◌}
use mathlib.Core.Path.{◌≡◌, refl, ap, ◌∙◌}
use mathlib.Core.Bool.{Bool, true, false, cond}
use mathlib.Core.List.{List, [], ◌∷◌}
use native.Mathlib.Omega.{arith}
use lib.ListN.{length, get_or, take, drop, length-drop}
use lib.Seq.{length-take-le, drop-drop}
use Rattle.rules.proofs.Impossible.{impossible}
use Rattle.rules.specs.Limits.{argument_bytes}
use Rattle.body.specs.Bytes.{value_at}
use Rattle.body.specs.Entry.{entries}
use Rattle.body.specs.Check.{scan, on_check, verdict, check_of as body_check}
use Rattle.body.proofs.Sizes.{whole_sized, check_by}
use Rattle.file.specs.declared.Whose.{Whose}
use Rattle.file.specs.declared.Whose.TheVariants.{Site, Fleet}
use Rattle.file.specs.declared.Found.{Found}
use Rattle.file.specs.declared.LookupError.TheVariants.{Absent, Broken}
use Rattle.file.specs.declared.Place.{Place}
use Rattle.refusal.specs.declared.Refusal.{Refusal}
use Rattle.file.specs.Contents.{named, body_bytes, name_bytes, contents_bytes, bodies_at, total}
use Rattle.file.specs.Check.{on_body, broken_body, counts_in, broken_content, file_check}
use Rattle.file.specs.Place.{place_at, place_in}
use Rattle.file.specs.Lookup.{same, seek, placed, found_in, in_file, finding_of, file_from}
use Rattle.file.specs.Claim.{BrokenBy}
use Rattle.file.proofs.Order.{same_true}
use Rattle.file.proofs.Checks.{entry_kept_right, content_kept_right, contents_first, rest_sound}

-- a part of a file that is a valid body, with a name
pub record BodyIn (file name : List ℕ) (place : Place) : Type 0 where
  pub counted : length name ≡ name_bytes
  pub well : named name ≡ true
  pub within : place.from + place.long ≤ length file
  pub valid : body_check argument_bytes (take place.long (drop place.from file)) ≡ Ok tt

body_sound : (o : Option ℕ) (b : ℕ) (rest : Result (Unit {0}) Refusal) → on_body o b rest ≡ Ok tt → (o ≡ None) × (rest ≡ Ok tt)
body_sound None b rest p = (refl, p)
body_sound (Some i) b rest p = impossible cc

-- no body breaks a rule: neither the first nor one of those after it
pub bodies_first : (n : ℕ) (counts bodies : List ℕ) (b : ℕ) → broken_body (n ∷ counts) bodies b ≡ Ok tt
    → (scan (entries argument_bytes (take (body_bytes n) bodies)) 0 0 ≡ None) × (broken_body counts (drop (body_bytes n) bodies) (b + 1) ≡ Ok tt)
unfolding broken_body
bodies_first n counts bodies b p =
    body_sound (scan (entries argument_bytes (take (body_bytes n) bodies)) 0 0) b (broken_body counts (drop (body_bytes n) bodies) (b + 1)) p

-- a body that is scanned to its end is valid
pub body_valid : (b : List ℕ) (n : ℕ) → 1 ≤ n → n ≤ 63 → length b ≡ body_bytes n → scan (entries argument_bytes b) 0 0 ≡ None
    → body_check argument_bytes b ≡ Ok tt
body_valid b n l m e p = check_by argument_bytes b (whole_sized argument_bytes (length b) n (omega arith) l m) ∙ ap (verdict 0) p

seek_found : (file before c name : List ℕ) (k offset i b : ℕ) (place : Place) → broken_content before c k offset i ≡ None
    → offset + total (counts_in c k) ≡ length file → broken_body (counts_in c k) (drop offset file) b ≡ Ok tt → contents_bytes * k ≤ length c
    → seek c name k ≡ Some place → BodyIn file name place
unfolding seek counts_in total
seek_found file before c name zero offset i b place p q r g s = impossible cc
seek_found file before c name (suc k) offset i b place p q r g s =
    let n : ℕ = get_or c 10 0 in
    let first = contents_first before c k offset i p in
    let kept = content_kept_right before c offset first.0 in
    let entry = entry_kept_right before (take name_bytes c) n kept.entry in
    let bodies = bodies_first n (counts_in (drop contents_bytes c) k) (drop offset file) b r in
    let here : BodyIn file (take name_bytes c) (place_at offset (body_bytes n)) =
    record {
      counted = length-take-le name_bytes c (omega arith);
      well = entry.well;
      within = omega arith;
      valid =
          body_valid (take (body_bytes n) (drop offset file)) n entry.least entry.most
          (length-take-le (body_bytes n) (drop offset file) (omega (arith, length-drop offset file))) bodies.0;
    } in
    let later : seek (drop contents_bytes c) name k ≡ Some place → BodyIn file name place =
    seek_found file (take name_bytes c) (drop contents_bytes c) name k (offset + body_bytes n) (i + 1) (b + 1) place first.1 (omega arith)
    (rw (← drop-drop (body_bytes n) offset file) bodies.1) (omega (arith, length-drop contents_bytes c)) in
    go (same (take name_bytes c) name) refl kept.begins here later s
  where
    go : (t : Bool) → same (take name_bytes c) name ≡ t → value_at 2 c 8 ≡ offset
        → BodyIn file (take name_bytes c) (place_at offset (body_bytes (get_or c 10 0)))
        → (seek (drop contents_bytes c) name k ≡ Some place → BodyIn file name place)
        → cond t (Some (place_in c)) (seek (drop contents_bytes c) name k) ≡ Some place → BodyIn file name place
    go true u e here later s =
        let m : take name_bytes c ≡ name = same_true (take name_bytes c) name u in
        let f : place_in c ≡ place = cc in
        rw (← f, ← m, e) here
    go false u e here later s = later s

-- the body with a name in a sound file
pub placed_found : (file name : List ℕ) (place : Place) → file_check file ≡ Ok tt → placed file name ≡ Some place → BodyIn file name place
unfolding file_check
placed_found [] name place p s = impossible cc
placed_found (count ∷ f) name place p s =
    let k = rest_sound count f p in
    seek_found (count ∷ f) [] f name count (bodies_at count) 0 0 place k.kept
    (omega (arith, k.held, k.valid.full, length-drop (contents_bytes * count) f))
    (rw (← drop-drop (contents_bytes * count) 1 (count ∷ f)) k.valid.unbroken) k.held s

-- what a lookup found is what the search in one of the sound files found
found_by : (site fleet : Result (Unit {0}) Refusal) (a b : Option Place) (found : Found)
    → on_check site (λ r. Err (Broken Site r)) (on_check fleet (λ r. Err (Broken Fleet r)) (in_file a Site (in_file b Fleet (Err Absent)))) ≡ Ok found
    → (P : Found → Type 0)
    → ((place : Place) → site ≡ Ok tt → a ≡ Some place → P (found_in Site place))
    → ((place : Place) → fleet ≡ Ok tt → b ≡ Some place → P (found_in Fleet place))
    → P found
found_by (Err r) fleet a b found p P f g = impossible cc
found_by (Ok _) (Err r) a b found p P f g = impossible cc
found_by (Ok _) (Ok _) (Some place) b found p P f g =
    let u : found_in Site place ≡ found = cc in
    rw (← u) (f place refl refl)
found_by (Ok _) (Ok _) None (Some place) found p P f g =
    let u : found_in Fleet place ≡ found = cc in
    rw (← u) (g place refl refl)
found_by (Ok _) (Ok _) None None found p P f g = impossible cc

pub finding_found : (site fleet name : List ℕ) (found : Found) → finding_of site fleet name ≡ Ok found
    → BodyIn (file_from found.whose site fleet) name found.place
unfolding finding_of
finding_found site fleet name found p =
    found_by (file_check site) (file_check fleet) (placed site name) (placed fleet name) found p
    (λ f. BodyIn (file_from f.whose site fleet) name f.place) (placed_found site name) (placed_found fleet name)

-- a broken file is one that the check refused
pub broken_by : (site fleet : Result (Unit {0}) Refusal) (a b : Option Place) (whose : Whose) (r : Refusal)
    → on_check site (λ r. Err (Broken Site r)) (on_check fleet (λ r. Err (Broken Fleet r)) (in_file a Site (in_file b Fleet (Err Absent))))
    ≡ Err (Broken whose r)
    → BrokenBy site fleet whose r
broken_by (Err s) fleet a b Site r p = cc
broken_by (Err s) fleet a b Fleet r p = impossible cc
broken_by (Ok _) (Err s) a b Site r p = impossible cc
broken_by (Ok _) (Err s) a b Fleet r p = (refl, cc)
broken_by (Ok _) (Ok _) (Some place) b whose r p = impossible cc
broken_by (Ok _) (Ok _) None (Some place) whose r p = impossible cc
broken_by (Ok _) (Ok _) None None whose r p = impossible cc
