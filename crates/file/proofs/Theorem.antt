-- The claims on pattern files: which files are accepted, what a lookup finds, that what was written is read back, and when each refusal is given.
-- A file's parts are read from it, and its names rise strictly. Assumes nothing.
use Rattle.std.specs.Prelude.{Err, None, Ok, Result, Some}
use Prim.Native.Nat.{ℕ, ◌*◌, ◌<◌}
use mathlib.Core.Logic.{◌↔◌}
use mathlib.Core.Path.{◌≡◌, refl, sym, ap, ◌∙◌}
use mathlib.Core.List.{List, []}
use native.Mathlib.Omega.{arith}
use lib.Dec.{leb, eqb}
use lib.ListN.{length, get_or, take, drop, length-drop}
use lib.Seq.{drop-drop}
use borrow.Author.Tests.{le-leb, eq-eqb, leb-true, eqb-true}
use Rattle.rules.proofs.Impossible.{impossible}
use Rattle.rules.specs.Limits.{most_patterns}
use Rattle.refusal.specs.declared.Refusal.{Refusal}
use Rattle.body.specs.Bytes.{value_at}
use Rattle.body.specs.Entry.{entry_of, entry_at, entries_by, entries}
use Rattle.body.specs.Check.{depth_of, scan}
use Rattle.file.specs.declared.Whose.TheVariants.{Site, Fleet}
use Rattle.file.specs.declared.Found.{Found}
use Rattle.file.specs.declared.LookupError.{LookupError}
use Rattle.file.specs.declared.LookupError.TheVariants.{Absent}
use Rattle.file.specs.Contents.{name_byte, spaces, padded, named, below, body_bytes, name_bytes, contents_bytes, bodies_at}
use Rattle.file.specs.Contents.{name_of, file_of, total, body_at, body_of}
use Rattle.file.specs.Check.{entry_kept, broken_entry, broken_body, bodies_check, parts_check, counts_in, content_kept, broken_content, rest_check, file_check}
use Rattle.file.specs.Write.{writing_of}
use Rattle.file.specs.Place.{place_at, place_in, pattern_count, body_place}
use Rattle.file.specs.Lookup.{placed, finding_of, part_of}
use Rattle.file.specs.Claim.{PartsOf, AcceptedExactly, OneWay, BodiesPlaced, OneName, WrittenAccepted, FoundBody, FoundWithin, FoundNamed}
use Rattle.file.specs.Claim.{Lacks, FoundInSite, FoundInFleet, AbsentFromBoth, BrokenExactly}
use Rattle.file.specs.Claim.{ReadsBack, FileReadsBack, WrittenReadsBack, WriterRefuses, SmallestFile}
use Rattle.file.specs.Claim.{PartsJudged, FileJudged}
use Rattle.file.specs.Judged.{Judged, PartsCounted, PartRight, FileCounted, ContentRight, counts_of, bodies_of}
use Rattle.file.proofs.Checks.{parts_sound, check_rest}
use Rattle.file.proofs.Writes.{wrote_parts, refused_by}
use Rattle.file.proofs.Files.{near, bodies_after, rest_made, place_there, written_sound, accepted_parts, parts_read}
use Rattle.file.proofs.Order.{names_differ, name_once, seek_nowhere, seek_there}
use Rattle.file.proofs.Finds.{body_here, finding_site_broken, finding_fleet_broken, finding_by}
use Rattle.file.proofs.Placed.{finding_found, broken_by}
use Rattle.file.proofs.Judges.{judged_exactly, parts_found, contents_found}

pub written_accepted : WrittenAccepted
written_accepted = written_sound

parts_accepted : (f names counts bodies : List ℕ) → PartsOf f names counts bodies → file_check f ≡ Ok tt
parts_accepted f names counts bodies k = ap file_check k.same ∙ written_sound names counts bodies k.sound

pub accepted_exactly : AcceptedExactly
accepted_exactly f w = (accepted_parts f w, λ k. parts_accepted f k.names k.counts k.bodies k.parts)

pub one_way : OneWay
one_way f names counts bodies names' counts' bodies' k k' =
    let r = parts_read f names counts bodies k in
    let r' = parts_read f names' counts' bodies' k' in
    (r.0 ∙ sym r'.0, r.1 ∙ sym r'.1, r.2 ∙ sym r'.2)

pub one_name : OneName
one_name names counts bodies p = name_once names counts (parts_sound names counts bodies p).kept

pub found_body : FoundBody
found_body site fleet name found p = (finding_found site fleet name found p).valid

pub found_within : FoundWithin
found_within site fleet name found p = (finding_found site fleet name found p).within

pub found_named : FoundNamed
found_named site fleet name found p =
    let b = finding_found site fleet name found p in
    (b.counted, b.well)

-- where a search in a file finds a name, by the file's parts
module _ (f names counts bodies : List ℕ) (k : PartsOf f names counts bodies) where
  placed_there : (i : ℕ) → i < length counts → placed f (name_of names i) ≡ Some (place_at (body_at counts i) (body_bytes (get_or counts i 0)))
  placed_there i h =
      let s = parts_sound names counts bodies k.sound in
      ap (λ (g : List ℕ). placed g (name_of names i)) k.same
      ∙ seek_there bodies (name_of names i) names counts (bodies_at (length counts)) i s.full (near names counts bodies s) h
      (λ j l e. names_differ names counts s.kept j i l h e) refl

  placed_nowhere : (name : List ℕ) → Lacks names counts name → placed f name ≡ None
  placed_nowhere name l =
      let s = parts_sound names counts bodies k.sound in
      ap (λ (g : List ℕ). placed g name) k.same
      ∙ seek_nowhere bodies name names counts (bodies_at (length counts)) s.full (near names counts bodies s) l

pub found_in_site : FoundInSite
found_in_site site fleet names counts bodies k q i h =
    sym (finding_by site fleet (name_of names i) (parts_accepted site names counts bodies k) q _ _ (placed_there site names counts bodies k i h) refl)

pub found_in_fleet : FoundInFleet
found_in_fleet site fleet names counts bodies names' counts' bodies' k k' i h l =
    sym (finding_by site fleet (name_of names' i) (parts_accepted site names counts bodies k) (parts_accepted fleet names' counts' bodies' k') _ _
    (placed_nowhere site names counts bodies k (name_of names' i) l) (placed_there fleet names' counts' bodies' k' i h))

-- if a name is refused as Absent, both files lack it
module _ (site fleet name names counts bodies names' counts' bodies' : List ℕ) (k : PartsOf site names counts bodies)
    (k' : PartsOf fleet names' counts' bodies') (p : finding_of site fleet name ≡ Err Absent) where
  site_lacks : Lacks names counts name
  site_lacks j h e =
      let f = found_in_site site fleet names counts bodies k (parts_accepted fleet names' counts' bodies' k') j h in
      let g = ap (finding_of site fleet) e in
      impossible cc

  fleet_lacks : Lacks names' counts' name
  fleet_lacks j h e =
      let f = found_in_fleet site fleet names counts bodies names' counts' bodies' k k' j h (λ i l q. site_lacks i l (q ∙ e)) in
      let g = ap (finding_of site fleet) e in
      impossible cc

pub absent_from_both : AbsentFromBoth
absent_from_both site fleet name names counts bodies names' counts' bodies' k k' = (
  λ p. (
    site_lacks site fleet name names counts bodies names' counts' bodies' k k' p,
    fleet_lacks site fleet name names counts bodies names' counts' bodies' k k' p,
  ),
  λ l. sym (finding_by site fleet name (parts_accepted site names counts bodies k) (parts_accepted fleet names' counts' bodies' k') _ _
      (placed_nowhere site names counts bodies k name l.0) (placed_nowhere fleet names' counts' bodies' k' name l.1)),
)

pub broken_exactly : BrokenExactly
unfolding finding_of
broken_exactly site fleet name Site r = (
  broken_by (file_check site) (file_check fleet) (placed site name) (placed fleet name) Site r,
  λ p. sym (finding_site_broken site fleet name r p),
)
broken_exactly site fleet name Fleet r = (
  broken_by (file_check site) (file_check fleet) (placed site name) (placed fleet name) Fleet r,
  λ p. sym (finding_fleet_broken site fleet name p.0 r p.1),
)

-- the bytes at the place of body number i are the body that was given
body_part : (f names counts bodies : List ℕ) → PartsOf f names counts bodies → (i : ℕ)
    → take (body_bytes (get_or counts i 0)) (drop (body_at counts i) f) ≡ body_of counts bodies i
body_part f names counts bodies k i =
    let s = parts_sound names counts bodies k.sound in
    let file : List ℕ = file_of names counts bodies in
    let from : drop (bodies_at (length counts)) file ≡ bodies =
    sym (drop-drop (contents_bytes * length counts) 1 file) ∙ bodies_after names counts bodies s in
    let at : drop (body_at counts i) file ≡ drop (total (take i counts)) bodies =
    sym (drop-drop (total (take i counts)) (bodies_at (length counts)) file) ∙ ap (drop (total (take i counts))) from in
    ap (take (body_bytes (get_or counts i 0))) (ap (drop (body_at counts i)) k.same ∙ at)

pub bodies_placed : BodiesPlaced
bodies_placed f names counts bodies k = (ap pattern_count k.same, λ i h. (placed_at i h, body_part f names counts bodies k i))
  where
    placed_at : (i : ℕ) → i < length counts → body_place f i ≡ Some (place_at (body_at counts i) (body_bytes (get_or counts i 0)))
    placed_at i h =
        let s = parts_sound names counts bodies k.sound in
        let file : List ℕ = file_of names counts bodies in
        ap (λ (g : List ℕ). body_place g i) k.same
        ∙ sym (body_here file i h (omega (arith, (rest_made names counts bodies s).held)))
        ∙ ap Some (ap place_in (sym (drop-drop (contents_bytes * i) 1 file))
        ∙ place_there bodies names counts (bodies_at (length counts)) i s.full (near names counts bodies s) h)

parts_read_back : (f names counts bodies : List ℕ) → PartsOf f names counts bodies → ReadsBack f names counts bodies
parts_read_back f names counts bodies k = record {
  in_site = λ fleet i q h.
      ap (λ (a : Result Found LookupError). part_of a f fleet) (found_in_site f fleet names counts bodies k q i h) ∙ body_part f names counts bodies k i;
  in_fleet = λ site names' counts' bodies' i k' h l.
      ap (λ (a : Result Found LookupError). part_of a site f) (found_in_fleet site f names' counts' bodies' names counts bodies k' k i h l)
      ∙ body_part f names counts bodies k i;
}

pub file_reads_back : FileReadsBack
file_reads_back names counts bodies p =
    parts_read_back (file_of names counts bodies) names counts bodies record { sound = p; same = refl }

pub written_reads_back : WrittenReadsBack
written_reads_back names counts bodies old new n w =
    parts_read_back (take n new) names counts bodies (wrote_parts names counts bodies old new n w)

pub parts_judged : PartsJudged
unfolding parts_check
parts_judged names counts bodies =
    judged_exactly (PartsCounted names counts) (PartRight names counts) counts bodies
    (leb 1 (length counts)) (leb (length counts) most_patterns) (eqb (length names) (name_bytes * length counts)) (broken_entry [] names counts 0)
    (λ p q r. record {
      least = leb-true 1 (length counts) p;
      most = leb-true (length counts) most_patterns q;
      named = eqb-true (length names) (name_bytes * length counts) r;
    })
    (λ c. (
      le-leb 1 (length counts) c.least,
      le-leb (length counts) most_patterns c.most,
      eq-eqb (length names) (name_bytes * length counts) c.named,
    ))
    (λ c. parts_found names counts)
    (λ i k. (k.least, k.most))

rest_judged : (f : List ℕ) (r : Result (Unit {0}) Refusal)
    → rest_check (get_or f 0 0) (drop 1 f) ≡ r ↔ Judged (FileCounted f) (ContentRight f) (counts_of f) (bodies_of f) r
unfolding rest_check
rest_judged f =
    let n : ℕ = get_or f 0 0 in
    judged_exactly (FileCounted f) (ContentRight f) (counts_of f) (bodies_of f)
    (leb 1 n) (leb n most_patterns) (leb (contents_bytes * n) (length (drop 1 f))) (broken_content [] (drop 1 f) n (bodies_at n) 0)
    (λ p q r. record {
      least = leb-true 1 n p;
      most = leb-true n most_patterns q;
      held = omega (arith, leb-true 1 n p, leb-true (contents_bytes * n) (length (drop 1 f)) r, length-drop 1 f);
    })
    (λ c. (
      le-leb 1 n c.least,
      le-leb n most_patterns c.most,
      le-leb (contents_bytes * n) (length (drop 1 f)) (omega (arith, c.held, length-drop 1 f)),
    ))
    (contents_found f)
    (λ i k. (k.entry.least, k.entry.most))

pub file_judged : FileJudged
file_judged f r = rw (check_rest f) (rest_judged f r)

pub writer_refuses : WriterRefuses
unfolding writing_of
writer_refuses names counts bodies room r = refused_by (parts_check names counts bodies) (length (file_of names counts bodies)) room r

-- by computing
pub smallest_file : SmallestFile
unfolding file_check rest_check broken_content content_kept entry_kept named padded spaces name_byte below value_at
    bodies_check counts_in total broken_body scan entries entries_by entry_at entry_of depth_of
smallest_file = refl
