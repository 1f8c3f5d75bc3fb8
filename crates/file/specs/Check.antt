-- The check of the parts given to the writer, and of a file: refusals 4, 5, 6, 7, in this order (docs/RULES.md, "Pattern files" and "Refusals").
-- Assumes nothing: these are definitions.
use Rattle.std.specs.Prelude.{ℕ, zero, suc, ◌+◌, ◌*◌, Bool, false, cond, List, [], ◌∷◌, ◌++◌, leb, eqb, length, get_or, take, drop}
use Rattle.std.specs.Prelude.{Err, None, Ok, Option, Result, Some}
use Rattle.rules.specs.Limits.{argument_bytes, most_entries, most_patterns}
use Rattle.refusal.specs.declared.Refusal.{Refusal}
use Rattle.refusal.specs.declared.Refusal.TheVariants.{Count, Entry, Size}
use Rattle.refusal.specs.Table.{broken_at}
use Rattle.body.specs.Bytes.{value_at}
use Rattle.body.specs.Entry.{entries}
use Rattle.body.specs.Check.{scan}
use Rattle.file.specs.Contents.{named, below, body_bytes, name_bytes, contents_bytes, bodies_at, total}

-- whether a name stands after the name before it (no bytes before the first), with 1 to 63 entries
unfoldable pub entry_kept : List ℕ → List ℕ → ℕ → Bool
entry_kept before name n = cond (named name) (cond (below before name) (cond (leb 1 n) (leb n most_entries) false) false) false

-- the lowest entry that breaks a rule, counted from i, where `before` is the name before the first
unfoldable pub broken_entry : List ℕ → List ℕ → List ℕ → ℕ → Option ℕ
broken_entry before names [] i = None
broken_entry before names (n ∷ counts) i =
    cond (entry_kept before (take name_bytes names) n) (broken_entry (take name_bytes names) (drop name_bytes names) counts (i + 1)) (Some i)

abbrev pub on_body : Option ℕ → ℕ → Result (Unit {0}) Refusal → Result (Unit {0}) Refusal
on_body None b rest = rest
on_body (Some i) b rest = Err (broken_at b i)

-- the lowest body, and in it the lowest entry, that breaks a rule, counted from body b
unfoldable pub broken_body : List ℕ → List ℕ → ℕ → Result (Unit {0}) Refusal
broken_body [] bodies b = Ok tt
broken_body (n ∷ counts) bodies b =
    on_body (scan (entries argument_bytes (take (body_bytes n) bodies)) 0 0) b (broken_body counts (drop (body_bytes n) bodies) (b + 1))

abbrev pub on_entry : Option ℕ → Result (Unit {0}) Refusal → Result (Unit {0}) Refusal
on_entry None rest = rest
on_entry (Some i) rest = Err (Entry i)

-- the answer for bodies given end to end: Size, then Body
unfoldable pub bodies_check : List ℕ → List ℕ → Result (Unit {0}) Refusal
bodies_check counts bodies = cond (eqb (length bodies) (total counts)) (broken_body counts bodies 0) (Err Size)

-- the answer for the parts given to the writer: Count, Entry, Size, then Body
unfoldable pub parts_check : List ℕ → List ℕ → List ℕ → Result (Unit {0}) Refusal
parts_check names counts bodies =
    cond (leb 1 (length counts)) (cond (leb (length counts) most_patterns) (cond (eqb (length names) (name_bytes * length counts))
    (on_entry (broken_entry [] names counts 0) (bodies_check counts bodies))
    (Err Count)) (Err Count)) (Err Count)

-- the names, and the numbers of entries, in the k entries that contents begin with
unfoldable pub names_in : List ℕ → ℕ → List ℕ
names_in c zero = []
names_in c (suc k) = take name_bytes c ++ names_in (drop contents_bytes c) k

unfoldable pub counts_in : List ℕ → ℕ → List ℕ
counts_in c zero = []
counts_in c (suc k) = get_or c 10 0 ∷ counts_in (drop contents_bytes c) k

-- whether the entry that contents begin with keeps its rules, where its body begins at `offset`
unfoldable pub content_kept : List ℕ → List ℕ → ℕ → Bool
content_kept before c offset =
    cond (entry_kept before (take name_bytes c) (get_or c 10 0)) (cond (eqb (value_at 2 c 8) offset) (eqb (get_or c 11 0) 0) false) false

-- the lowest of k entries of a file's contents that breaks a rule, counted from i
unfoldable pub broken_content : List ℕ → List ℕ → ℕ → ℕ → ℕ → Option ℕ
broken_content before c zero offset i = None
broken_content before c (suc k) offset i =
    cond (content_kept before c offset) (broken_content (take name_bytes c) (drop contents_bytes c) k (offset + body_bytes (get_or c 10 0)) (i + 1)) (Some i)

-- the answer for what follows the count of a file: the contents, then the bodies
unfoldable pub rest_check : ℕ → List ℕ → Result (Unit {0}) Refusal
rest_check count f =
    cond (leb 1 count) (cond (leb count most_patterns) (cond (leb (contents_bytes * count) (length f))
    (on_entry (broken_content [] f count (bodies_at count) 0) (bodies_check (counts_in f count) (drop (contents_bytes * count) f)))
    (Err Count)) (Err Count)) (Err Count)

-- the answer for a file: Count, Entry, Size, then Body
unfoldable pub file_check : List ℕ → Result (Unit {0}) Refusal
file_check [] = Err Count
file_check (count ∷ f) = rest_check count f
