-- A turn of each loop of the writer, and the file that its parts make. Assumes nothing.
use Rattle.std.specs.Prelude.{Err, Ok, Result}
use Prim.Native.Nat.{ℕ, suc, ◌+◌, ◌-◌, ◌*◌, ◌≤◌, ◌<◌}
use mathlib.Core.Path.{◌≡◌, refl, sym, ap, ◌∙◌}
use mathlib.Core.Logic.{◌⊎◌, ◌↔◌, inl, inr, ⊎_elim}
use mathlib.Core.Bool.{Bool, true, false, cond}
use mathlib.Core.List.{List, [], ◌∷◌, ◌++◌, append-nil, append_assoc}
use native.Mathlib.Numerals.{add-one}
use native.Mathlib.Omega.{arith}
use lib.Dec.{leb}
use lib.ListN.{length, get_or, take, drop, set, length-append, length-drop, drop_of_length-le}
use lib.Seq.{drop-cons, drop-drop, length-take-le, take_all, take_at, drop_at, sets, sets-eq}
use borrow.Author.Tests.{le-leb, lt-leb, leb-false}
use borrow.Rule.Slice.PartMut.{put_mid, same_len_mid, mid_len}
use Rattle.std.proofs.lemmas.Slice.{take-put_mid}
use Rattle.rules.proofs.Impossible.{impossible}
use Rattle.refusal.specs.declared.Refusal.{Refusal}
use Rattle.refusal.specs.declared.Refusal.TheVariants.{Room}
use Rattle.body.specs.Bytes.{bytes_of}
use Rattle.body.proofs.Bytes.{length_bytes}
use Rattle.file.specs.Contents.{body_bytes, name_bytes, contents_bytes, bodies_at, content_of, contents, file_of}
use Rattle.body.specs.Check.{on_check}
use Rattle.file.specs.Check.{parts_check}
use Rattle.file.specs.Write.{in_room, writing_of, Wrote}
use Rattle.file.specs.Claim.{PartsOf}
use Rattle.file.proofs.Checks.{parts_sound}

-- an entry of the contents: a name, then two bytes stored at once and two one by one
pub entry_written : (name entry v vs : List ℕ) → length name ≡ name_bytes → length v ≡ 2 → length vs ≡ 2 → length entry ≡ contents_bytes
    → sets (put_mid 8 2 (name ++ drop name_bytes entry) v) 10 vs ≡ name ++ (v ++ vs)
entry_written name entry v vs n two last e =
    let l : List ℕ = name ++ drop name_bytes entry in
    let long : length l ≡ contents_bytes = omega (arith, length-append name (drop name_bytes entry), length-drop name_bytes entry) in
    let p : List ℕ = put_mid 8 2 l v in
    let long' : length p ≡ contents_bytes = same_len_mid 8 2 l v (two ∙ sym (mid_len 8 10 l (omega arith))) ∙ long in
    let front : take 10 p ≡ take 8 l ++ v = take-put_mid 8 2 l v 10 (omega arith) (omega arith) in
    let end : drop (10 + length vs) p ≡ [] = drop_of_length-le p {i = 10 + length vs} (omega arith) in
    sets-eq vs p 10 (omega arith)
    ∙ rw (front, end, take_at name (drop name_bytes entry) name_bytes n, append-nil ((name ++ v) ++ vs), append_assoc name v vs)

pub length_content : (name : List ℕ) (offset n : ℕ) → length name ≡ name_bytes → length (content_of name offset n) ≡ contents_bytes
length_content name offset n h =
    omega (arith, length-append name (bytes_of 2 offset ++ (n ∷ 0 ∷ [])), length-append (bytes_of 2 offset) (n ∷ 0 ∷ []), length_bytes 2 offset)

-- i entries of the contents are written
pub record Filled (names counts part : List ℕ) (i offset : ℕ) : Type 0 where
  pub near : offset ≤ 193 + 1275 * i
  pub long : length part ≡ contents_bytes * length counts
  pub made : take (i * contents_bytes) part ++ contents (drop (i * name_bytes) names) (drop i counts) offset ≡ contents names counts (bodies_at (length counts))

-- one entry more
module _ {names counts part : List ℕ} {i offset : ℕ} (k : Filled names counts part i offset) (h : i < length counts)
    (full : length names ≡ name_bytes * length counts) where
  name : List ℕ
  name = take (i * name_bytes + name_bytes - i * name_bytes) (drop (i * name_bytes) names)

  at : ℕ
  at = i * contents_bytes

  pub name_long : length (take (i * name_bytes + name_bytes - i * name_bytes) (drop (i * name_bytes) names)) ≡ name_bytes
  name_long =
      length-take-le (i * name_bytes + name_bytes - i * name_bytes) (drop (i * name_bytes) names) (omega (arith, length-drop (i * name_bytes) names))
      ∙ omega arith

  -- e is what its bytes are then
  module _ {e : List ℕ} (q : e ≡ content_of (take (i * name_bytes + name_bytes - i * name_bytes) (drop (i * name_bytes) names)) offset (get_or counts i 0)) where
    entry_long : length e ≡ contents_bytes
    unfolding name
    entry_long = ap length q ∙ length_content name offset (get_or counts i 0) name_long

    contents_turn : contents (drop (i * name_bytes) names) (drop i counts) offset
        ≡ e ++ contents (drop ((i + 1) * name_bytes) names) (drop (i + 1) counts) (offset + body_bytes (get_or counts i 0))
    unfolding contents
    contents_turn =
        let long : i * name_bytes + name_bytes - i * name_bytes ≡ name_bytes = omega arith in
        let next : i * name_bytes + name_bytes ≡ suc i * name_bytes = omega arith in
        rw (drop-cons counts i 0 h, q, long, add-one i, drop-drop name_bytes (i * name_bytes) names, next)

    pub filled_more : {n : ℕ} → n ≡ get_or counts i 0 → n < 256
        → Filled names counts (put_mid (i * contents_bytes) (i * contents_bytes + contents_bytes - i * contents_bytes) part e) (i + 1) (offset + body_bytes n)
    unfolding at
    filled_more p l = record {
      near = omega (arith, k.near);
      long = same_len_mid at (at + contents_bytes - at) part e
          (entry_long ∙ sym (mid_len at (at + contents_bytes) part (omega (arith, k.long)) ∙ omega arith)) ∙ k.long;
      made =
          let front : take ((i + 1) * contents_bytes) (put_mid at (at + contents_bytes - at) part e) ≡ take at part ++ e =
          take-put_mid at (at + contents_bytes - at) part e ((i + 1) * contents_bytes) (omega (arith, entry_long)) (omega (arith, k.long)) in
          let rest : List ℕ = contents (drop ((i + 1) * name_bytes) names) (drop (i + 1) counts) (offset + body_bytes (get_or counts i 0)) in
          rw (front, p, append_assoc (take at part) e rest, ← contents_turn) k.made;
    }

pub filled_all : {names counts part : List ℕ} {i offset : ℕ} → Filled names counts part i offset → length counts ≤ i
    → part ≡ contents names counts (bodies_at (length counts))
unfolding contents
filled_all {counts = counts} {part = part} {i = i} k h =
    sym (append-nil part)
    ∙ ap (λ (x : List ℕ). x ++ []) (sym (take_all (i * contents_bytes) part (omega (arith, k.long))))
    ∙ (rw (drop_of_length-le counts {i = i} h) at k.made)

-- the count, the contents and the bodies stored one after the other are the file, and what lies beyond is kept
pub file_written : (x : ℕ) (old c b : List ℕ) (at end : ℕ) → at ≡ 1 + length c → end ≡ at + length b → end ≤ length old
    → put_mid at (end - at) (put_mid 1 (at - 1) (set old 0 x) c) b ≡ (x ∷ (c ++ b)) ++ drop end old
file_written x [] c b at end p q h = absurd (omega arith)
file_written x (y ∷ old) c b at end p q h =
    let rest : List ℕ = drop (at - 1) old in
    let front : length (x ∷ c) ≡ at = omega arith in
    let last : 1 + (at - 1 + (end - at)) ≡ end = omega arith in
    let far : drop (end - at) rest ≡ drop end (y ∷ old) =
    drop-drop (end - at) (at - 1) old ∙ drop-drop (at - 1 + (end - at)) 1 (y ∷ old) ∙ ap (λ (n : ℕ). drop n (y ∷ old)) last in
    rw (take_at (x ∷ c) rest at front, drop_at (x ∷ c) rest at front, far, append_assoc c b (drop end (y ∷ old)))

-- the contents have 12 bytes for each pattern
pub length_contents : (names counts : List ℕ) (offset : ℕ) → length names ≡ name_bytes * length counts
    → length (contents names counts offset) ≡ contents_bytes * length counts
unfolding contents
length_contents names [] offset h = omega arith
length_contents names (n ∷ counts) offset h =
    let name : List ℕ = take name_bytes names in
    let rest : List ℕ = contents (drop name_bytes names) counts (offset + body_bytes n) in
    length-append (content_of name offset n) rest
    ∙ omega (
      arith,
      length_content name offset n (length-take-le name_bytes names (omega arith)),
      length_contents (drop name_bytes names) counts (offset + body_bytes n) (omega (arith, length-drop name_bytes names)),
    )

-- the writer's promise, one law for each way out
module _ (names counts bodies old : List ℕ) where
  pub wrote_refused : (r : Refusal) → parts_check names counts bodies ≡ Err r → Wrote names counts bodies old old (Err r)
  unfolding writing_of
  wrote_refused r p = record { answer = rw p; later = refl }

  module _ (p : parts_check names counts bodies ≡ Ok tt) where
    length_file : length (file_of names counts bodies) ≡ bodies_at (length counts) + length bodies
    length_file =
        let c : List ℕ = contents names counts (bodies_at (length counts)) in
        omega (arith, length-append c bodies, length_contents names counts (bodies_at (length counts)) (parts_sound names counts bodies p).full)

    pub wrote_short : length old < bodies_at (length counts) + length bodies
        → Wrote names counts bodies old old (Err (Room (bodies_at (length counts) + length bodies)))
    unfolding writing_of
    wrote_short h = record {
      answer = rw (p, length_file, lt-leb (bodies_at (length counts) + length bodies) (length old) h);
      later = refl;
    }

    pub wrote_file : {c b : List ℕ} → c ≡ contents names counts (bodies_at (length counts)) → b ≡ bodies
        → bodies_at (length counts) + length bodies ≤ length old
        → Wrote names counts bodies old
        (put_mid (bodies_at (length counts)) (bodies_at (length counts) + length bodies - bodies_at (length counts))
        (put_mid 1 (bodies_at (length counts) - 1) (set old 0 (length counts)) c) b)
        (Ok (bodies_at (length counts) + length bodies))
    unfolding writing_of
    wrote_file {c} {b} q r h = record {
      answer = rw (p, length_file, le-leb (bodies_at (length counts) + length bodies) (length old) h);
      later =
          file_written (length counts) old c b (bodies_at (length counts)) (bodies_at (length counts) + length bodies)
          (omega (arith, ap length q, length_contents names counts (bodies_at (length counts)) (parts_sound names counts bodies p).full))
          (omega (arith, ap length r)) h
          ∙ rw (q, r) refl;
    }

-- if the writer says that it wrote, its parts are accepted and the bytes are those of the file
written_by : (c : Result (Unit {0}) Refusal) (needed room n : ℕ) → Ok n ≡ on_check c Err (in_room needed room) → (c ≡ Ok tt) × (needed ≡ n)
written_by (Err r) needed room n p = impossible cc
written_by (Ok _) needed room n p = (refl, go (leb needed room) p)
  where
    go : (t : Bool) → Ok n ≡ cond t (Ok needed) (Err (Room needed)) → needed ≡ n
    go true q = cc
    go false q = impossible cc

pub wrote_parts : (names counts bodies old new : List ℕ) (n : ℕ) → Wrote names counts bodies old new (Ok n)
    → PartsOf (take n new) names counts bodies
unfolding writing_of
wrote_parts names counts bodies old new n w =
    let f : List ℕ = file_of names counts bodies in
    let b = written_by (parts_check names counts bodies) (length f) (length old) n w.answer in
    record { sound = b.0; same = ap (take n) w.later ∙ take_at f (drop n old) n b.1 }

-- what the writer refuses
pub refused_by : (c : Result (Unit {0}) Refusal) (needed room : ℕ) (r : Refusal)
    → on_check c Err (in_room needed room) ≡ Err r ↔ ((c ≡ Err r) ⊎ ((c ≡ Ok tt) × (room < needed) × (r ≡ Room needed)))
refused_by (Err s) needed room r = (
  λ p. inl cc,
  ⊎_elim (λ q. let e : s ≡ r = cc in ap Err e) (λ q. let h = q.0 in impossible cc),
)
refused_by (Ok _) needed room r = (
  λ p. let e = go (leb needed room) refl p in inr (refl, e.0, e.1),
  ⊎_elim (λ q. impossible cc) (λ q. rw (lt-leb needed room q.1, q.2)),
)
  where
    go : (t : Bool) → leb needed room ≡ t → cond t (Ok needed) (Err (Room needed)) ≡ Err r → (room < needed) × (r ≡ Room needed)
    go true e p = impossible cc
    go false e p = (leb-false needed room e, cc)
