-- What is claimed of pattern files; each claim is proved in proofs/Theorem. Assumes nothing: these are definitions.
use Rattle.std.specs.Prelude.{ℕ, ◌+◌, ◌≤◌, ◌<◌, ◌≡◌, ◌⊎◌, ◌↔◌, true, List, [], ◌∷◌, length, get_or, take, drop, Err, Ok, Result, Some}
use Rattle.rules.specs.Limits.{argument_bytes}
use Rattle.refusal.specs.declared.Refusal.{Refusal}
use Rattle.refusal.specs.declared.Refusal.TheVariants.{Room}
use Rattle.body.specs.Bytes.{Bytes}
use Rattle.body.specs.Check.{check_of as body_check}
use Rattle.file.specs.declared.Whose.{Whose}
use Rattle.file.specs.declared.Whose.TheVariants.{Site, Fleet}
use Rattle.file.specs.declared.Found.{Found}
use Rattle.file.specs.declared.LookupError.TheVariants.{Absent, Broken}
use Rattle.file.specs.Contents.{named, body_bytes, name_bytes, name_of, file_of, body_at, body_of}
use Rattle.file.specs.Check.{parts_check, file_check}
use Rattle.file.specs.Write.{writing_of, Wrote}
use Rattle.file.specs.Place.{place_at, pattern_count, body_place}
use Rattle.file.specs.Lookup.{found_in, finding_of, file_from, part_of}
use Rattle.file.specs.Judged.{Judged, PartsCounted, PartRight, FileCounted, ContentRight, counts_of, bodies_of}

-- f is the file that the writer makes from these names, numbers of entries and bodies
pub record PartsOf (f names counts bodies : List ℕ) : Type 0 where
  pub sound : parts_check names counts bodies ≡ Ok tt
  pub same : f ≡ file_of names counts bodies

-- f is a file that the writer makes from some parts
pub record Parts (f : List ℕ) : Type 0 where
  pub names : List ℕ
  pub counts : List ℕ
  pub bodies : List ℕ
  pub names_bytes : Bytes names
  pub counts_bytes : Bytes counts
  pub bodies_bytes : Bytes bodies
  pub parts : PartsOf f names counts bodies

-- a file is accepted exactly if the writer makes it from some parts, byte for byte
abbrev pub AcceptedExactly : Type 0
AcceptedExactly = (f : List ℕ) → Bytes f → file_check f ≡ Ok tt ↔ Parts f

-- and these parts are the only ones
abbrev pub OneWay : Type 0
OneWay =
    (f names counts bodies names' counts' bodies' : List ℕ) → PartsOf f names counts bodies → PartsOf f names' counts' bodies'
    → (names ≡ names') × (counts ≡ counts') × (bodies ≡ bodies')

-- such a file says how many patterns it has, and where each body is
abbrev pub BodiesPlaced : Type 0
BodiesPlaced =
    (f names counts bodies : List ℕ) → PartsOf f names counts bodies
    → (pattern_count f ≡ length counts)
    × ((i : ℕ) → i < length counts
    → (body_place f i ≡ Some (place_at (body_at counts i) (body_bytes (get_or counts i 0))))
    × (take (body_bytes (get_or counts i 0)) (drop (body_at counts i) f) ≡ body_of counts bodies i))

-- a file has each name at most once
abbrev pub OneName : Type 0
OneName =
    (names counts bodies : List ℕ) → parts_check names counts bodies ≡ Ok tt
    → (i j : ℕ) → i < length counts → j < length counts → name_of names i ≡ name_of names j → i ≡ j

-- what the writer writes is accepted
abbrev pub WrittenAccepted : Type 0
WrittenAccepted = (names counts bodies : List ℕ) → parts_check names counts bodies ≡ Ok tt → file_check (file_of names counts bodies) ≡ Ok tt

-- what a lookup finds is a valid body
abbrev pub FoundBody : Type 0
FoundBody =
    (site fleet name : List ℕ) (found : Found)
    → finding_of site fleet name ≡ Ok found → body_check argument_bytes (part_of (Ok found) site fleet) ≡ Ok tt

-- it lies within its file
abbrev pub FoundWithin : Type 0
FoundWithin =
    (site fleet name : List ℕ) (found : Found)
    → finding_of site fleet name ≡ Ok found → found.place.from + found.place.long ≤ length (file_from found.whose site fleet)

-- and the name is well formed: a malformed name is in neither file
abbrev pub FoundNamed : Type 0
FoundNamed =
    (site fleet name : List ℕ) (found : Found)
    → finding_of site fleet name ≡ Ok found → (length name ≡ name_bytes) × (named name ≡ true)

-- a name is none of the names of a file
abbrev pub Lacks : List ℕ → List ℕ → List ℕ → Type 0
Lacks names counts name = (j : ℕ) → j < length counts → name_of names j ≡ name → ⊥

-- a name of the site file is found there, at the place of its own body
abbrev pub FoundInSite : Type 0
FoundInSite =
    (site fleet names counts bodies : List ℕ) → PartsOf site names counts bodies → file_check fleet ≡ Ok tt
    → (i : ℕ) → i < length counts
    → finding_of site fleet (name_of names i) ≡ Ok (found_in Site (place_at (body_at counts i) (body_bytes (get_or counts i 0))))

-- a name of the fleet file that the site file lacks is found in the fleet file, at the place of its own body
abbrev pub FoundInFleet : Type 0
FoundInFleet =
    (site fleet names counts bodies names' counts' bodies' : List ℕ) → PartsOf site names counts bodies → PartsOf fleet names' counts' bodies'
    → (i : ℕ) → i < length counts' → Lacks names counts (name_of names' i)
    → finding_of site fleet (name_of names' i) ≡ Ok (found_in Fleet (place_at (body_at counts' i) (body_bytes (get_or counts' i 0))))

-- a name is refused as Absent exactly if both files lack it
abbrev pub AbsentFromBoth : Type 0
AbsentFromBoth =
    (site fleet name names counts bodies names' counts' bodies' : List ℕ) → PartsOf site names counts bodies → PartsOf fleet names' counts' bodies'
    → finding_of site fleet name ≡ Err Absent ↔ (Lacks names counts name × Lacks names' counts' name)

-- the check refuses the site file; or it accepts the site file and refuses the fleet file
abbrev pub BrokenBy : Result (Unit {0}) Refusal → Result (Unit {0}) Refusal → Whose → Refusal → Type 0
BrokenBy site fleet Site r = site ≡ Err r
BrokenBy site fleet Fleet r = (site ≡ Ok tt) × (fleet ≡ Err r)

-- a lookup answers with a broken file exactly if the check refuses that file, the site file first
abbrev pub BrokenExactly : Type 0
BrokenExactly =
    (site fleet name : List ℕ) (whose : Whose) (r : Refusal)
    → finding_of site fleet name ≡ Err (Broken whose r) ↔ BrokenBy (file_check site) (file_check fleet) whose r

-- with f as the site file, or as the fleet file of a site file that lacks the name, looking up name number i returns body number i, byte for byte
pub record ReadsBack (f names counts bodies : List ℕ) : Type 0 where
  pub in_site : (fleet : List ℕ) (i : ℕ) → file_check fleet ≡ Ok tt → i < length counts
      → part_of (finding_of f fleet (name_of names i)) f fleet ≡ body_of counts bodies i
  pub in_fleet : (site names' counts' bodies' : List ℕ) (i : ℕ) → PartsOf site names' counts' bodies' → i < length counts
      → Lacks names' counts' (name_of names i)
      → part_of (finding_of site f (name_of names i)) site f ≡ body_of counts bodies i

-- the file of accepted names, numbers and bodies gives each body back
abbrev pub FileReadsBack : Type 0
FileReadsBack =
    (names counts bodies : List ℕ) → parts_check names counts bodies ≡ Ok tt → ReadsBack (file_of names counts bodies) names counts bodies

-- and so do the n bytes that the writer says it wrote
abbrev pub WrittenReadsBack : Type 0
WrittenReadsBack =
    (names counts bodies old new : List ℕ) (n : ℕ) → Wrote names counts bodies old new (Ok n) → ReadsBack (take n new) names counts bodies

-- the check of the writer's parts gives each answer exactly when the rules call for it
abbrev pub PartsJudged : Type 0
PartsJudged =
    (names counts bodies : List ℕ) (r : Result (Unit {0}) Refusal)
    → parts_check names counts bodies ≡ r ↔ Judged (PartsCounted names counts) (PartRight names counts) counts bodies r

-- the writer refuses exactly if its parts are refused, or they are sound and the slice is too short for the file: Room, with the length needed
abbrev pub WriterRefuses : Type 0
WriterRefuses =
    (names counts bodies : List ℕ) (room : ℕ) (r : Refusal)
    → writing_of names counts bodies room ≡ Err r
    ↔ ((parts_check names counts bodies ≡ Err r)
    ⊎ ((parts_check names counts bodies ≡ Ok tt)
    × (room < length (file_of names counts bodies))
    × (r ≡ Room (length (file_of names counts bodies)))))

-- the check of a file gives each answer exactly when the rules call for it
abbrev pub FileJudged : Type 0
FileJudged = (f : List ℕ) (r : Result (Unit {0}) Refusal) → file_check f ≡ r ↔ Judged (FileCounted f) (ContentRight f) (counts_of f) (bodies_of f) r

-- the smallest file, of the name W and the pattern `A`, is accepted
abbrev pub SmallestFile : Type 0
SmallestFile = file_check (1 ∷ 87 ∷ 32 ∷ 32 ∷ 32 ∷ 32 ∷ 32 ∷ 32 ∷ 32 ∷ 13 ∷ 0 ∷ 1 ∷ 0 ∷ 0 ∷ 0 ∷ 0 ∷ 0 ∷ 0 ∷ []) ≡ Ok tt
