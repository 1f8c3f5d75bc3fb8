-- A turn of each loop over contents, numbers of entries and bodies, and each way out. Assumes nothing.
use Rattle.std.specs.Prelude.{Err, None, Ok, Some}
use Prim.Native.Nat.{ℕ, suc, ◌+◌, ◌-◌, ◌*◌, ◌≤◌, ◌<◌}
use mathlib.Core.Path.{◌≡◌, refl, sym, ap, ◌∙◌}
use mathlib.Core.Bool.{true, false, cond}
use mathlib.Core.List.{List, [], ◌∷◌, ◌++◌}
use native.Mathlib.Numerals.{add-one}
use native.Mathlib.Omega.{arith}
use lib.ListN.{length, get_or, take, drop, set, length-set, drop_of_length-le, take-append-drop}
use lib.Seq.{drop-cons, drop-drop, get_or-drop, take-suc-set, drop-set-lt, append_snoc}
use Rattle.rules.proofs.Lists.{drop_part}
use Rattle.rules.specs.Limits.{argument_bytes}
use Rattle.refusal.specs.Table.{broken_at}
use Rattle.body.specs.Bytes.{Bytes}
use Rattle.body.specs.Entry.{entries}
use Rattle.body.specs.Check.{scan}
use Rattle.body.proofs.Scan.{left_suc, left_zero}
use Rattle.file.specs.Contents.{body_bytes, name_bytes, contents_bytes, bodies_at, total}
use Rattle.file.specs.Check.{entry_kept, broken_entry, on_body, broken_body, counts_in, content_kept, broken_content}

-- the bytes of the bodies from number i on
pub total_turn : (counts : List ℕ) (i : ℕ) → i < length counts
    → total (drop i counts) ≡ body_bytes (get_or counts i 0) + total (drop (i + 1) counts)
unfolding total
total_turn counts i h = rw (drop-cons counts i 0 h, add-one i)

pub total_end : (counts : List ℕ) (i : ℕ) → length counts ≤ i → total (drop i counts) ≡ 0
unfolding total
total_end counts i h = rw (drop_of_length-le counts h)

-- i of the numbers of entries are copied out of the contents f
pub record Copied (count : ℕ) (f old new : List ℕ) (i : ℕ) : Type 0 where
  pub long : length new ≡ length old
  pub filled : take i new ++ (counts_in (drop (contents_bytes * i) f) (count - i) ++ drop count new) ≡ counts_in f count ++ drop count old

counts_turn : (f : List ℕ) (count i : ℕ) → i < count
    → counts_in (drop (contents_bytes * i) f) (count - i)
    ≡ get_or f (contents_bytes * i + 10) 0 ∷ counts_in (drop (contents_bytes * (i + 1)) f) (count - (i + 1))
unfolding counts_in
counts_turn f count i h =
    let next : contents_bytes * i + contents_bytes ≡ contents_bytes * (i + 1) = omega arith in
    rw (left_suc count i h, get_or-drop (contents_bytes * i) f 10 0, drop-drop contents_bytes (contents_bytes * i) f, next)

pub copied_more : {count : ℕ} {f old new : List ℕ} {i : ℕ} → Copied count f old new i → count ≤ length new → i < count
    → Copied count f old (set new i (get_or f (contents_bytes * i + 10) 0)) (i + 1)
copied_more {count} {f} {old} {new} {i} k l h =
    let v : ℕ = get_or f (contents_bytes * i + 10) 0 in
    let rest : List ℕ = counts_in (drop (contents_bytes * (i + 1)) f) (count - (i + 1)) in
    record {
      long = length-set new i v ∙ k.long;
      filled =
          rw (
            add-one i,
            take-suc-set new i v (omega arith),
            drop-set-lt count new i v h,
            ← add-one i,
            append_snoc (take i new) v (rest ++ drop count new),
          )
          (ap (λ (r : List ℕ). take i new ++ (r ++ drop count new)) (sym (counts_turn f count i h)) ∙ k.filled);
    }

pub copied_all : {count : ℕ} {f old new : List ℕ} {i : ℕ} → Copied count f old new i → i ≡ count → new ≡ counts_in f count ++ drop count old
unfolding counts_in
copied_all {count} {f} {old} {new} {i} k e =
    let z : count - i ≡ 0 = omega arith in
    sym (take-append-drop count new) ∙ (rw (z, e) at k.filled)

-- the bodies before number b, which begins at a place, keep their rules
pub record Searched (counts bodies : List ℕ) (b at : ℕ) : Type 0 where
  pub upto : b ≤ length counts
  pub left : at + total (drop b counts) ≡ length bodies
  pub same : broken_body (drop b counts) (drop at bodies) b ≡ broken_body counts bodies 0

pub searched_none : (counts bodies : List ℕ) → length bodies ≡ total counts → Searched counts bodies 0 0
searched_none counts bodies h = record { upto = omega arith; left = omega arith; same = refl }

pub searched_all : {counts bodies : List ℕ} {b at : ℕ} → Searched counts bodies b at → length counts ≤ b → Ok tt ≡ broken_body counts bodies 0
unfolding broken_body
searched_all {counts} k h = rw (drop_of_length-le counts h) at k.same

-- body number b has n entries and stands between two places
pub record AtBody (counts bodies : List ℕ) (b at n end : ℕ) : Type 0 where
  pub counted : n ≡ get_or counts b 0
  pub ends : end ≡ at + body_bytes n
  pub there : b < length counts
  pub before : Searched counts bodies b at

module _ {counts bodies : List ℕ} {b at n end : ℕ} (k : AtBody counts bodies b at n end) where
  pub body_ends : end ≤ length bodies
  body_ends = omega (arith, k.before.left, total_turn counts b k.there)

  turned : broken_body (drop b counts) (drop at bodies) b
      ≡ on_body (scan (entries argument_bytes (take (end - at) (drop at bodies))) 0 0) b (broken_body (drop (b + 1) counts) (drop end bodies) (b + 1))
  unfolding broken_body
  turned =
      let long : body_bytes (get_or counts b 0) ≡ end - at = omega arith in
      let next : at + (end - at) ≡ end = omega arith in
      rw (drop-cons counts b 0 k.there, add-one b, long, drop-drop (end - at) at bodies, next)

  pub searched_here : {e : ℕ} → scan (entries argument_bytes (take (end - at) (drop at bodies))) 0 0 ≡ Some e
      → Err (broken_at b e) ≡ broken_body counts bodies 0
  searched_here o = rw (turned, o) at k.before.same

  pub searched_more : scan (entries argument_bytes (take (end - at) (drop at bodies))) 0 0 ≡ None → Searched counts bodies (b + 1) end
  searched_more o = record {
    upto = omega arith;
    left = omega (arith, k.before.left, total_turn counts b k.there);
    same = rw (turned, o) at k.before.same;
  }

-- i of the names and numbers of entries keep their rules
pub record Kept (names counts : List ℕ) (i : ℕ) (before : List ℕ) : Type 0 where
  pub same : broken_entry before (drop (i * name_bytes) names) (drop i counts) i ≡ broken_entry [] names counts 0

pub kept_all : {names counts before : List ℕ} {i : ℕ} → Kept names counts i before → length counts ≤ i → None ≡ broken_entry [] names counts 0
unfolding broken_entry
kept_all {counts = counts} k h = rw (drop_of_length-le counts h) at k.same

module _ {names counts before name : List ℕ} {i n : ℕ} (k : Kept names counts i before) (h : i < length counts)
    (p : name ≡ take name_bytes (drop (i * name_bytes) names)) (q : n ≡ get_or counts i 0) where
  entry_turn : broken_entry before (drop (i * name_bytes) names) (drop i counts) i
      ≡ cond (entry_kept before name n) (broken_entry name (drop ((i + 1) * name_bytes) names) (drop (i + 1) counts) (i + 1)) (Some i)
  unfolding broken_entry
  entry_turn =
      let next : i * name_bytes + name_bytes ≡ suc i * name_bytes = omega arith in
      rw (drop-cons counts i 0 h, add-one i, p, q, drop-drop name_bytes (i * name_bytes) names, next)

  pub kept_here : entry_kept before name n ≡ false → Some i ≡ broken_entry [] names counts 0
  kept_here r = rw (entry_turn, r) at k.same

  pub kept_more : entry_kept before name n ≡ true → Kept names counts (i + 1) name
  kept_more r = record { same = rw (entry_turn, r) at k.same }

-- i of the entries of contents keep their rules, and the next body is to begin at an offset
pub record KeptContents (count : ℕ) (f : List ℕ) (i : ℕ) (before : List ℕ) (offset : ℕ) : Type 0 where
  pub near : offset ≤ 193 + 1275 * i
  pub same : broken_content before (drop (contents_bytes * i) f) (count - i) offset i ≡ broken_content [] f count (bodies_at count) 0

pub contents_all : {count : ℕ} {f before : List ℕ} {i offset : ℕ} → KeptContents count f i before offset → count ≤ i
    → None ≡ broken_content [] f count (bodies_at count) 0
unfolding broken_content
contents_all {count} {i = i} k h = rw (left_zero count i h) at k.same

module _ {count : ℕ} {f before : List ℕ} {i offset : ℕ} (k : KeptContents count f i before offset) (h : i < count) where
  entry : List ℕ
  entry = take (length f - contents_bytes * i) (drop (contents_bytes * i) f)

  content_turn : broken_content before (drop (contents_bytes * i) f) (count - i) offset i
      ≡ cond (content_kept before entry offset)
      (broken_content (take name_bytes entry) (drop (contents_bytes * (i + 1)) f) (count - (i + 1)) (offset + body_bytes (get_or entry 10 0)) (i + 1))
      (Some i)
  unfolding broken_content entry
  content_turn =
      let next : contents_bytes * i + contents_bytes ≡ contents_bytes * (i + 1) = omega arith in
      rw (left_suc count i h, drop_part f (contents_bytes * i), drop-drop contents_bytes (contents_bytes * i) f, next)

  module _ {e : List ℕ} (p : e ≡ take (length f - contents_bytes * i) (drop (contents_bytes * i) f)) where
    pub contents_here : content_kept before e offset ≡ false → Some i ≡ broken_content [] f count (bodies_at count) 0
    unfolding entry
    contents_here r = rw (content_turn, ← p, r) at k.same

    byte_there : (j : ℕ) → Bytes f → get_or e j 0 < 256
    byte_there j w = rw (p, drop_part f (contents_bytes * i), get_or-drop (contents_bytes * i) f j 0) (w (contents_bytes * i + j))

    pub contents_more : content_kept before e offset ≡ true → Bytes f → (name : List ℕ) (n : ℕ) → name ≡ take name_bytes e → n ≡ get_or e 10 0
        → KeptContents count f (i + 1) name (offset + body_bytes n)
    unfolding entry
    contents_more r w name n q s = record { near = omega (arith, k.near, byte_there 10 w); same = rw (q, s) (rw (content_turn, ← p, r) at k.same) }
