-- A file's contents and the names and numbers of entries that they hold: each gives the other back. An entry is read from its own bytes, and those
-- after it from what follows them. Assumes nothing.
use Rattle.std.specs.Prelude.{None, Ok}
use Prim.Native.Nat.{ℕ, zero, suc, ◌+◌, ◌*◌, ◌≤◌, ◌<◌}
use mathlib.Core.Path.{◌≡◌, refl, sym, ap, ap₂, ◌∙◌}
use mathlib.Core.List.{List, [], ◌∷◌, ◌++◌, append_assoc}
use native.Mathlib.Omega.{arith}
use lib.ListN.{length, get_or, take, drop, length-append, length-drop, take-append-drop}
use lib.Seq.{length-take-le, get_or-drop, take_at, drop_at, take-add, drop-drop}
use borrow.Author.Tests.{eq-eqb}
use Rattle.body.proofs.Bytes.{bytes_take, bytes_drop}
use Rattle.rules.proofs.Impossible.{impossible}
use Rattle.rules.specs.Limits.{most_entries}
use Rattle.body.specs.Bytes.{bytes_of, value_at, Bytes}
use Rattle.body.proofs.Bytes.{value_drop, value_bytes, bytes_value}
use Rattle.file.specs.Contents.{body_bytes, name_bytes, contents_bytes, bodies_at, name_of, content_of, contents, file_of, total}
use Rattle.file.specs.Check.{broken_entry, names_in, counts_in, content_kept, broken_content, parts_check, file_check}
use Rattle.file.specs.Place.{place_at, place_in}
use Rattle.file.specs.Claim.{PartsOf, Parts}
use Rattle.file.proofs.Checks.{entries_first, entries_small, content_kept_right, contents_first, length_counts}
use Rattle.file.proofs.Checks.{PartsSound, parts_sound, sound_parts, RestSound, rest_sound, sound_rest}
use Rattle.file.proofs.Writes.{length_content, length_contents}

-- contents that begin with an entry
module _ (name more : List ℕ) (offset n : ℕ) (h : length name ≡ name_bytes) where
  pub head_name : take name_bytes (content_of name offset n ++ more) ≡ name
  head_name = rw (append_assoc name (bytes_of 2 offset ++ (n ∷ 0 ∷ [])) more) (take_at name _ name_bytes h)

  pub head_rest : drop contents_bytes (content_of name offset n ++ more) ≡ more
  head_rest = drop_at (content_of name offset n) more contents_bytes (length_content name offset n h)

  after_name : drop name_bytes (content_of name offset n ++ more) ≡ bytes_of 2 offset ++ (n ∷ 0 ∷ more)
  after_name =
      rw (append_assoc name (bytes_of 2 offset ++ (n ∷ 0 ∷ [])) more, append_assoc (bytes_of 2 offset) (n ∷ 0 ∷ []) more)
      (drop_at name (bytes_of 2 offset ++ (n ∷ 0 ∷ more)) name_bytes h)

  pub head_count : get_or (content_of name offset n ++ more) 10 0 ≡ n
  unfolding bytes_of
  head_count = sym (get_or-drop name_bytes (content_of name offset n ++ more) 2 0) ∙ ap (λ (l : List ℕ). get_or l 2 0) after_name

  pub head_zero : get_or (content_of name offset n ++ more) 11 0 ≡ 0
  unfolding bytes_of
  head_zero = sym (get_or-drop name_bytes (content_of name offset n ++ more) 3 0) ∙ ap (λ (l : List ℕ). get_or l 3 0) after_name

  pub head_offset : offset < 65536 → value_at 2 (content_of name offset n ++ more) 8 ≡ offset
  head_offset l =
      value_drop 2 (content_of name offset n ++ more) 8 0
      ∙ ap (λ (r : List ℕ). value_at 2 r 0) after_name
      ∙ value_bytes 2 offset (n ∷ 0 ∷ more) l

-- what contents hold is what they were made of
module _ (rest : List ℕ) where
  -- contents of a first entry, and those after it
  pub contents_cons : (names : List ℕ) (n : ℕ) (counts : List ℕ) (offset : ℕ)
      → contents names (n ∷ counts) offset ++ rest
      ≡ content_of (take name_bytes names) offset n ++ (contents (drop name_bytes names) counts (offset + body_bytes n) ++ rest)
  unfolding contents
  contents_cons names n counts offset =
      append_assoc (content_of (take name_bytes names) offset n) (contents (drop name_bytes names) counts (offset + body_bytes n)) rest

  pub names_back : (names counts : List ℕ) (offset : ℕ) → length names ≡ name_bytes * length counts
      → names_in (contents names counts offset ++ rest) (length counts) ≡ names
  unfolding names_in
  names_back [] [] offset h = refl
  names_back (x ∷ names) [] offset h = absurd (omega arith)
  names_back names (n ∷ counts) offset h =
      let name : List ℕ = take name_bytes names in
      let more : List ℕ = contents (drop name_bytes names) counts (offset + body_bytes n) ++ rest in
      let long : length name ≡ name_bytes = length-take-le name_bytes names (omega arith) in
      rw (contents_cons names n counts offset, head_name name more offset n long, head_rest name more offset n long)
      (ap (λ (l : List ℕ). name ++ l) (names_back (drop name_bytes names) counts (offset + body_bytes n) (omega (arith, length-drop name_bytes names)))
      ∙ take-append-drop name_bytes names)

  pub counts_back : (names counts : List ℕ) (offset : ℕ) → length names ≡ name_bytes * length counts
      → counts_in (contents names counts offset ++ rest) (length counts) ≡ counts
  unfolding counts_in
  counts_back names [] offset h = refl
  counts_back names (n ∷ counts) offset h =
      let name : List ℕ = take name_bytes names in
      let more : List ℕ = contents (drop name_bytes names) counts (offset + body_bytes n) ++ rest in
      let long : length name ≡ name_bytes = length-take-le name_bytes names (omega arith) in
      rw (contents_cons names n counts offset, head_count name more offset n long, head_rest name more offset n long)
      (ap (λ (l : List ℕ). n ∷ l) (counts_back (drop name_bytes names) counts (offset + body_bytes n) (omega (arith, length-drop name_bytes names))))

  -- and where the parts break no rule, neither do the contents
  pub contents_kept : (before names counts : List ℕ) (offset i : ℕ) → length names ≡ name_bytes * length counts → offset + total counts < 65536
      → broken_entry before names counts i ≡ None → broken_content before (contents names counts offset ++ rest) (length counts) offset i ≡ None
  unfolding broken_content content_kept total
  contents_kept before names [] offset i h l p = refl
  contents_kept before names (n ∷ counts) offset i h l p =
      let name : List ℕ = take name_bytes names in
      let more : List ℕ = contents (drop name_bytes names) counts (offset + body_bytes n) ++ rest in
      let long : length name ≡ name_bytes = length-take-le name_bytes names (omega arith) in
      let first = entries_first before names n counts i p in
      rw (
        contents_cons names n counts offset,
        head_name name more offset n long,
        head_count name more offset n long,
        head_zero name more offset n long,
        head_offset name more offset n long (omega arith),
        head_rest name more offset n long,
        first.0,
        eq-eqb offset offset refl,
      )
      (contents_kept name (drop name_bytes names) counts (offset + body_bytes n) (i + 1) (omega (arith, length-drop name_bytes names)) (omega arith)
      first.1)

  -- and the place that entry number i says is that of body number i
  pub place_there : (names counts : List ℕ) (offset i : ℕ) → length names ≡ name_bytes * length counts → offset + total counts < 65536
      → i < length counts
      → place_in (drop (contents_bytes * i) (contents names counts offset ++ rest)) ≡ place_at (offset + total (take i counts)) (body_bytes (get_or counts i 0))
  unfolding total
  place_there names [] offset i h l k = absurd (omega arith)
  place_there names (n ∷ counts) offset zero h l k =
      let name : List ℕ = take name_bytes names in
      let more : List ℕ = contents (drop name_bytes names) counts (offset + body_bytes n) ++ rest in
      let long : length name ≡ name_bytes = length-take-le name_bytes names (omega arith) in
      let z : offset ≡ offset + 0 = omega arith in
      rw (contents_cons names n counts offset, head_offset name more offset n long (omega arith), head_count name more offset n long)
      (ap (λ (o : ℕ). place_at o (body_bytes n)) z)
  place_there names (n ∷ counts) offset (suc i) h l k =
      let name : List ℕ = take name_bytes names in
      let more : List ℕ = contents (drop name_bytes names) counts (offset + body_bytes n) ++ rest in
      let long : length name ≡ name_bytes = length-take-le name_bytes names (omega arith) in
      let next : contents_bytes * suc i ≡ contents_bytes + contents_bytes * i = omega arith in
      let z : offset + body_bytes n + total (take i counts) ≡ offset + (body_bytes n + total (take i counts)) = omega arith in
      rw (
        next,
        ← drop-drop (contents_bytes * i) contents_bytes (contents names (n ∷ counts) offset ++ rest),
        contents_cons names n counts offset,
        head_rest name more offset n long,
      )
      (place_there (drop name_bytes names) counts (offset + body_bytes n) i (omega (arith, length-drop name_bytes names)) (omega arith) (omega arith)
      ∙ ap (λ (o : ℕ). place_at o (body_bytes (get_or counts i 0))) z)

-- bytes of parts of a list of bytes
bytes_append : (a b : List ℕ) → Bytes a → Bytes b → Bytes (a ++ b)
bytes_append [] b u v k = v k
bytes_append (x ∷ a) b u v zero = u 0
bytes_append (x ∷ a) b u v (suc k) = bytes_append a b (λ j. u (suc j)) v k

bytes_names : (c : List ℕ) (k : ℕ) → Bytes c → Bytes (names_in c k)
unfolding names_in
bytes_names c zero w j = omega arith
bytes_names c (suc k) w j =
    bytes_append (take name_bytes c) (names_in (drop contents_bytes c) k) (bytes_take name_bytes c w)
    (bytes_names (drop contents_bytes c) k (bytes_drop contents_bytes c w)) j

bytes_counts : (c : List ℕ) (k : ℕ) → Bytes c → Bytes (counts_in c k)
unfolding counts_in
bytes_counts c zero w j = omega arith
bytes_counts c (suc k) w zero = w 10
bytes_counts c (suc k) w (suc j) = bytes_counts (drop contents_bytes c) k (bytes_drop contents_bytes c w) j

pub length_names : (c : List ℕ) (k : ℕ) → contents_bytes * k ≤ length c → length (names_in c k) ≡ name_bytes * k
unfolding names_in
length_names c zero h = omega arith
length_names c (suc k) h =
    length-append (take name_bytes c) (names_in (drop contents_bytes c) k)
    ∙ omega (
      arith,
      length-take-le name_bytes c (omega arith),
      length_names (drop contents_bytes c) k (omega (arith, length-drop contents_bytes c)),
    )

-- the names after the first are those of the bytes after it
pub name_next : (names : List ℕ) (i : ℕ) → name_of names (suc i) ≡ name_of (drop name_bytes names) i
name_next names i =
    let e : suc i * name_bytes ≡ name_bytes + i * name_bytes = omega arith in
    ap (take name_bytes) (ap (λ (k : ℕ). drop k names) e ∙ sym (drop-drop (i * name_bytes) name_bytes names))

-- each name and number that contents hold, by their own bytes
pub name_held : (c : List ℕ) (k i : ℕ) → i < k → contents_bytes * k ≤ length c
    → take name_bytes (drop (contents_bytes * i) c) ≡ name_of (names_in c k) i
unfolding names_in
name_held c zero i h l = absurd (omega arith)
name_held c (suc k) zero h l = sym (take_at (take name_bytes c) (names_in (drop contents_bytes c) k) name_bytes (length-take-le name_bytes c (omega arith)))
name_held c (suc k) (suc i) h l =
    let rest : List ℕ = drop contents_bytes c in
    let next : contents_bytes * suc i ≡ contents_bytes + contents_bytes * i = omega arith in
    let passed : drop name_bytes (take name_bytes c ++ names_in rest k) ≡ names_in rest k =
    drop_at (take name_bytes c) (names_in rest k) name_bytes (length-take-le name_bytes c (omega arith)) in
    rw (next, ← drop-drop (contents_bytes * i) contents_bytes c, name_next (take name_bytes c ++ names_in rest k) i, passed)
    (name_held rest k i (omega arith) (omega (arith, length-drop contents_bytes c)))

pub count_held : (c : List ℕ) (k i : ℕ) → i < k → get_or (drop (contents_bytes * i) c) 10 0 ≡ get_or (counts_in c k) i 0
unfolding counts_in
count_held c zero i h = absurd (omega arith)
count_held c (suc k) zero h = refl
count_held c (suc k) (suc i) h =
    let next : contents_bytes * suc i ≡ contents_bytes + contents_bytes * i = omega arith in
    rw (next, ← drop-drop (contents_bytes * i) contents_bytes c) (count_held (drop contents_bytes c) k i (omega arith))

-- an entry's bytes are those of what is read from it
two : (l : List ℕ) → 2 ≤ length l → take 2 l ≡ get_or l 0 0 ∷ get_or l 1 0 ∷ []
two [] h = absurd (omega arith)
two (x ∷ []) h = absurd (omega arith)
two (x ∷ y ∷ l) h = refl

entry_back : (c : List ℕ) (offset : ℕ) → Bytes c → contents_bytes ≤ length c → value_at 2 c 8 ≡ offset → get_or c 11 0 ≡ 0
    → take contents_bytes c ≡ content_of (take name_bytes c) offset (get_or c 10 0)
entry_back c offset w h p z =
    let offset-bytes : take 2 (drop 8 c) ≡ bytes_of 2 offset = sym (bytes_value 2 c 8 w (omega arith)) ∙ ap (bytes_of 2) p in
    let last : take 2 (drop 10 c) ≡ get_or c 10 0 ∷ 0 ∷ [] =
    two (drop 10 c) (omega (arith, length-drop 10 c)) ∙ rw (get_or-drop 10 c 0 0, get_or-drop 10 c 1 0, z) refl in
    take-add 8 4 c
    ∙ ap (λ (r : List ℕ). take 8 c ++ r)
    (take-add 2 2 (drop 8 c) ∙ ap₂ (λ (r s : List ℕ). r ++ s) offset-bytes (ap (take 2) (drop-drop 2 8 c) ∙ last))

-- contents that break no rule are those of the names and numbers that they hold, which break none either
pub entries_back : (before c : List ℕ) (k offset i : ℕ) → Bytes c → contents_bytes * k ≤ length c → broken_content before c k offset i ≡ None
    → (broken_entry before (names_in c k) (counts_in c k) i ≡ None) × (take (contents_bytes * k) c ≡ contents (names_in c k) (counts_in c k) offset)
unfolding names_in counts_in broken_entry contents
entries_back before c zero offset i w h p = (refl, refl)
entries_back before c (suc k) offset i w h p =
    let first = contents_first before c k offset i p in
    let kept = content_kept_right before c offset first.0 in
    let n : ℕ = get_or c 10 0 in
    let name : List ℕ = take name_bytes c in
    let rest : List ℕ = drop contents_bytes c in
    let long : length name ≡ name_bytes = length-take-le name_bytes c (omega arith) in
    let more : contents_bytes * k ≤ length rest = omega (arith, length-drop contents_bytes c) in
    let later = entries_back name rest k (offset + body_bytes n) (i + 1) (bytes_drop contents_bytes c w) more first.1 in
    let bytes : contents_bytes * suc k ≡ contents_bytes + contents_bytes * k = omega arith in
    let names : take name_bytes (name ++ names_in rest k) ≡ name = take_at name (names_in rest k) name_bytes long in
    let names' : drop name_bytes (name ++ names_in rest k) ≡ names_in rest k = drop_at name (names_in rest k) name_bytes long in (
      rw (names, names', kept.entry) later.0,
      rw (bytes, names, names')
          (take-add contents_bytes (contents_bytes * k) c
          ∙ ap₂ (λ (r s : List ℕ). r ++ s) (entry_back c offset w (omega arith) kept.begins kept.zeros) later.1),
    )

-- all bodies of small numbers of entries are few bytes
total_le : (counts : List ℕ) → ((k : ℕ) → get_or counts k 0 ≤ most_entries) → total counts ≤ 315 * length counts
unfolding total
total_le [] h = omega arith
total_le (n ∷ counts) h = omega (arith, h 0, total_le counts (λ k. h (suc k)))

-- the file of sound parts: what follows its count
module _ (names counts bodies : List ℕ) (s : PartsSound names counts bodies) where
  pub near : bodies_at (length counts) + total counts < 65536
  near = omega (arith, s.most, total_le counts (entries_small [] names counts 0 s.kept))

  made_long : length (contents names counts (bodies_at (length counts))) ≡ contents_bytes * length counts
  made_long = length_contents names counts (bodies_at (length counts)) s.full

  pub bodies_after : drop (contents_bytes * length counts) (contents names counts (bodies_at (length counts)) ++ bodies) ≡ bodies
  bodies_after = drop_at (contents names counts (bodies_at (length counts))) bodies (contents_bytes * length counts) made_long

  pub rest_made : RestSound (length counts) (contents names counts (bodies_at (length counts)) ++ bodies)
  rest_made = record {
    least = s.least;
    most = s.most;
    held = omega (arith, length-append (contents names counts (bodies_at (length counts))) bodies, made_long);
    kept = contents_kept bodies [] names counts (bodies_at (length counts)) 0 s.full near s.kept;
    valid = rw (bodies_after, counts_back bodies names counts (bodies_at (length counts)) s.full) s.valid;
  }

-- what the writer writes is accepted
pub written_sound : (names counts bodies : List ℕ) → parts_check names counts bodies ≡ Ok tt → file_check (file_of names counts bodies) ≡ Ok tt
unfolding file_check
written_sound names counts bodies p = sound_rest (length counts) _ (rest_made names counts bodies (parts_sound names counts bodies p))

-- the parts of a file that is accepted
pub accepted_parts : (f : List ℕ) → Bytes f → file_check f ≡ Ok tt → Parts f
unfolding file_check
accepted_parts [] w p = impossible cc
accepted_parts (count ∷ f) w p =
    let k = rest_sound count f p in
    let v : Bytes f = λ j. w (suc j) in
    let names : List ℕ = names_in f count in
    let counts : List ℕ = counts_in f count in
    let bodies : List ℕ = drop (contents_bytes * count) f in
    let many : length counts ≡ count = length_counts f count in
    let back = entries_back [] f count (bodies_at count) 0 v k.held k.kept in
    record {
      names = names;
      counts = counts;
      bodies = bodies;
      names_bytes = bytes_names f count v;
      counts_bytes = bytes_counts f count v;
      bodies_bytes = bytes_drop (contents_bytes * count) f v;
      parts = record {
        sound = sound_parts names counts bodies record {
          least = omega (arith, k.least);
          most = omega (arith, k.most);
          full = length_names f count k.held ∙ ap (λ (n : ℕ). name_bytes * n) (sym many);
          kept = back.0;
          valid = k.valid;
        };
        same = rw many
            (ap (λ (l : List ℕ). count ∷ l) (sym (take-append-drop (contents_bytes * count) f) ∙ ap (λ (l : List ℕ). l ++ bodies) back.1));
      };
    }

-- the parts of a file are read from it
pub parts_read : (f names counts bodies : List ℕ) → PartsOf f names counts bodies
    → (names ≡ names_in (drop 1 f) (get_or f 0 0))
    × (counts ≡ counts_in (drop 1 f) (get_or f 0 0))
    × (bodies ≡ drop (contents_bytes * get_or f 0 0) (drop 1 f))
parts_read f names counts bodies k =
    let s = parts_sound names counts bodies k.sound in
    let at : ℕ = bodies_at (length counts) in
    rw k.same (
      sym (names_back bodies names counts at s.full),
      sym (counts_back bodies names counts at s.full),
      sym (bodies_after names counts bodies s),
    )
