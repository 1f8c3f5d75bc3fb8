-- The lookup of a name in a site file and a fleet file, the site file first: refusals 4, 5, 6, 7 of each file, then 15 (docs/RULES.md, "Pattern files" and
-- "Refusals").
-- Assumes nothing: these are definitions.
use Rattle.std.specs.Prelude.{ℕ, zero, suc, Bool, cond, List, [], ◌∷◌, bytes_eq, take, drop, Err, None, Ok, Option, Result, Some}
use Rattle.body.specs.Check.{on_check}
use Rattle.file.specs.declared.Whose.{Whose}
use Rattle.file.specs.declared.Whose.TheVariants.{Site, Fleet}
use Rattle.file.specs.declared.Place.{Place}
use Rattle.file.specs.declared.Found.{Found}
use Rattle.file.specs.declared.LookupError.{LookupError}
use Rattle.file.specs.declared.LookupError.TheVariants.{Absent, Broken}
use Rattle.file.specs.Contents.{name_bytes, contents_bytes}
use Rattle.file.specs.Check.{file_check}
use Rattle.file.specs.Place.{place_in}

-- whether two names have the same length and the same bytes
abbrev pub same : List ℕ → List ℕ → Bool
same = bytes_eq

-- where the body with a name begins and how many bytes it has, by the k entries that contents begin with
unfoldable pub seek : List ℕ → List ℕ → ℕ → Option Place
seek c name zero = None
seek c name (suc k) = cond (same (take name_bytes c) name) (Some (place_in c)) (seek (drop contents_bytes c) name k)

-- the same in a sound file
abbrev pub placed : List ℕ → List ℕ → Option Place
placed [] name = None
placed (count ∷ f) name = seek f name count

-- a body in one of the two files, at a place
abbrev pub found_in : Whose → Place → Found
found_in whose place = record { whose = whose; place = place }

abbrev pub in_file : Option Place → Whose → Result Found LookupError → Result Found LookupError
in_file None whose otherwise = otherwise
in_file (Some place) whose otherwise = Ok (found_in whose place)

-- the answer of a lookup: a file that is refused, the site file first; else the body in the site file, else that in the fleet file, else Absent
unfoldable pub finding_of : List ℕ → List ℕ → List ℕ → Result Found LookupError
finding_of site fleet name =
    on_check (file_check site) (λ r. Err (Broken Site r))
    (on_check (file_check fleet) (λ r. Err (Broken Fleet r)) (in_file (placed site name) Site (in_file (placed fleet name) Fleet (Err Absent))))

abbrev pub file_from : Whose → List ℕ → List ℕ → List ℕ
file_from Site site fleet = site
file_from Fleet site fleet = fleet

-- the part that a lookup returns: the body, or the empty part
abbrev pub part_of : Result Found LookupError → List ℕ → List ℕ → List ℕ
part_of (Ok found) site fleet = take found.place.long (drop found.place.from (file_from found.whose site fleet))
part_of (Err e) site fleet = []
