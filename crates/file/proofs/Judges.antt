-- Each answer of a check is given exactly when the rules call for it. A search by index finds the lowest number for which a rule is broken, and there
-- is only one such number; this serves entries and bodies. Assumes nothing.
use Rattle.std.specs.Prelude.{Err, None, Ok, Option, Result, Some}
use Prim.Native.Nat.{ℕ, zero, suc, ◌+◌, ◌-◌, ◌*◌, ◌≤◌, ◌<◌}
use mathlib.Core.Path.{◌≡◌, refl, sym, ap, subst, ◌∙◌}
use mathlib.Core.Logic.{◌↔◌}
use mathlib.Core.Bool.{Bool, true, false, cond}
use mathlib.Core.List.{List, [], ◌∷◌, ◌++◌}
use native.Mathlib.Decide.{dec_lt}
use native.Mathlib.Nat.{sub-zero}
use native.Mathlib.Numerals.{add-one}
use native.Mathlib.Omega.{arith}
use lib.Dec.{eqb}
use lib.ListN.{length, get_or, take, drop, length-drop, drop_of_length-le, take-append-drop}
use lib.Seq.{length-take-le, take-suc, drop-cons, drop-drop}
use borrow.Author.Tests.{eq-eqb, ne_eqb, eqb-true, eqb-false}
use Rattle.rules.proofs.Decisions.{true_or_false}
use Rattle.rules.proofs.Impossible.{impossible}
use Rattle.rules.specs.Limits.{argument_bytes, most_entries}
use Rattle.refusal.specs.declared.Refusal.{Refusal}
use Rattle.refusal.specs.declared.Refusal.TheVariants.{Count, Size}
use Rattle.refusal.specs.Table.{entry_named, broken_at}
use Rattle.body.specs.Bytes.{value_at}
use Rattle.body.specs.Entry.{entries}
use Rattle.body.specs.Check.{scan, verdict, check_of as body_check}
use Rattle.body.proofs.Sizes.{whole_sized, check_by}
use Rattle.body.proofs.Scan.{left_suc, left_zero}
use Rattle.file.specs.Contents.{body_bytes, name_bytes, contents_bytes, bodies_at, name_of, total, body_at, body_of}
use Rattle.file.specs.Check.{entry_kept, broken_entry, broken_body, on_entry, bodies_check, content_kept, broken_content}
use Rattle.file.specs.Ready.{Whole}
use Rattle.file.specs.Judged.{AllBelow, BodyRight, Judged, name_before, PartRight, FileCounted, contents_from, names_of, counts_of, ContentRight}
use Rattle.file.specs.Judged.Judged.{count, entry, size, body, sound}
use Rattle.file.proofs.Checks.{entry_kept_right, right_kept, content_kept_right, length_counts}
use Rattle.file.proofs.Files.{name_held, count_held}
use Rattle.file.proofs.Turns.{total_turn, Searched, searched_none, searched_all, AtBody, searched_here, searched_more}

-- one number more
below_more : (P : ℕ → Type 0) (i : ℕ) → AllBelow i P → P i → AllBelow (suc i) P
below_more P i lower here j h = go (dec_lt j i)
  where
    go : Dec (j < i) → P j
    go (yes l) = lower j l
    go (no l) = let e : i ≡ j = omega arith in subst P e here

-- what a search says: no number below n breaks a rule, or the lowest that does
abbrev pub Found : (ℕ → Type 0) → ℕ → Option ℕ → Type 0
Found P n None = AllBelow n P
Found P n (Some i) = (i < n) × AllBelow i P × (P i → ⊥)

-- there is one lowest number
lowest_one : (P : ℕ → Type 0) (i j : ℕ) → AllBelow i P → (P i → ⊥) → AllBelow j P → (P j → ⊥) → i ≡ j
lowest_one P i j l b l' b' = go (dec_lt i j) (dec_lt j i)
  where
    go : Dec (i < j) → Dec (j < i) → i ≡ j
    go (yes h) d = absurd (b (l' i h))
    go (no h) (yes k) = absurd (b' (l j k))
    go (no h) (no k) = omega arith

found_one : (P : ℕ → Type 0) (n : ℕ) (o o' : Option ℕ) → Found P n o → Found P n o' → o ≡ o'
found_one P n None None f g = refl
found_one P n None (Some j) f g = absurd (g.2 (f j g.0))
found_one P n (Some i) None f g = absurd (f.2 (g i f.0))
found_one P n (Some i) (Some j) f g = ap Some (lowest_one P i j f.1 f.2 g.1 g.2)

-- a search that goes by the index, from any index on
module _ (P : ℕ → Type 0) (n : ℕ) (s : ℕ → Option ℕ) (t : ℕ → Bool) (turn : (i : ℕ) → i < n → s i ≡ cond (t i) (s (suc i)) (Some i))
    (end : s n ≡ None) (right : (i : ℕ) → i < n → t i ≡ true → P i) (kept : (i : ℕ) → i < n → P i → t i ≡ true) where
  found_from : (k i : ℕ) → i + k ≡ n → AllBelow i P → Found P n (s i)
  found_from zero i e lower =
      let last : i ≡ n = omega arith in
      subst (Found P n) (sym (ap s last ∙ end)) (subst (λ (m : ℕ). AllBelow m P) last lower)
  found_from (suc k) i e lower = go (t i) refl (λ here. found_from k (suc i) (omega arith) (below_more P i lower here))
    where
      go : (u : Bool) → t i ≡ u → (P i → Found P n (s (suc i))) → Found P n (s i)
      go true p later =
          subst (Found P n) (sym (turn i (omega arith) ∙ ap (λ (u : Bool). cond u (s (suc i)) (Some i)) p)) (later (right i (omega arith) p))
      go false p later =
          subst (Found P n) (sym (turn i (omega arith) ∙ ap (λ (u : Bool). cond u (s (suc i)) (Some i)) p))
          (omega arith, lower, λ here. true_or_false (t i) (kept i (omega arith) here) p)

  pub found_all : Found P n (s 0)
  found_all = found_from n 0 (omega arith) (λ j h. absurd (omega arith))

-- the bytes of bodies, before one and from it on
total_append : (a b : List ℕ) → total (a ++ b) ≡ total a + total b
unfolding total
total_append [] b = omega arith
total_append (n ∷ a) b = omega (arith, total_append a b)

total_split : (counts : List ℕ) (i : ℕ) → total (take i counts) + total (drop i counts) ≡ total counts
total_split counts i = sym (total_append (take i counts) (drop i counts)) ∙ ap total (take-append-drop i counts)

pub total_more : (counts : List ℕ) (i : ℕ) → i < length counts → total (take (suc i) counts) ≡ total (take i counts) + body_bytes (get_or counts i 0)
unfolding total
total_more counts i h =
    ap total (take-suc counts i 0 h) ∙ omega (arith, total_append (take i counts) (get_or counts i 0 ∷ []))

-- what the search for a broken body says: none is broken, or the lowest that is
data BodiesJudged (counts bodies : List ℕ) : Result (Unit {0}) Refusal → Type 0 where
  broken : {b e : ℕ} → b < length counts → AllBelow b (BodyRight counts bodies)
      → body_check argument_bytes (body_of counts bodies b) ≡ Err (broken_at 0 e) → BodiesJudged counts bodies (Err (broken_at b e))
  unbroken : AllBelow (length counts) (BodyRight counts bodies) → BodiesJudged counts bodies (Ok tt)

not_both : (x : Result (Unit {0}) Refusal) {r : Refusal} → x ≡ Err r → x ≡ Ok tt → ⊥
not_both x p q = impossible cc

-- it has one outcome
bodies_one : {counts bodies : List ℕ} {r r' : Result (Unit {0}) Refusal} → BodiesJudged counts bodies r → BodiesJudged counts bodies r' → r ≡ r'
bodies_one (unbroken a) (unbroken a') = refl
bodies_one (unbroken a) (broken {b} h l p) = absurd (not_both _ p (a b h))
bodies_one (broken {b} h l p) (unbroken a) = absurd (not_both _ p (a b h))
bodies_one {counts} {bodies} (broken {b} {e} h l p) (broken {b = b'} {e = e'} h' l' p') =
    let same : b ≡ b' = lowest_one (BodyRight counts bodies) b b' l (not_both _ p) l' (not_both _ p') in
    let q : Err (broken_at 0 e) ≡ Err (broken_at 0 e') =
    sym p ∙ ap (λ (i : ℕ). body_check argument_bytes (body_of counts bodies i)) same ∙ p' in
    let r : broken_at 0 e ≡ broken_at 0 e' = cc in
    let place : e ≡ e' = ap entry_named r in
    cc

module _ (counts bodies : List ℕ) (whole : Whole counts bodies)
    (few : (i : ℕ) → i < length counts → (1 ≤ get_or counts i 0) × (get_or counts i 0 ≤ most_entries)) where
  -- a body of 1 to 63 entries is judged as a lone body by its entries alone
  body_judged : (b : ℕ) → b < length counts
      → body_check argument_bytes (body_of counts bodies b) ≡ verdict 0 (scan (entries argument_bytes (body_of counts bodies b)) 0 0)
  body_judged b h =
      let n : ℕ = get_or counts b 0 in
      let from : ℕ = total (take b counts) in
      let long : length (body_of counts bodies b) ≡ body_bytes n =
      length-take-le (body_bytes n) (drop from bodies) (omega (arith, length-drop from bodies, total_split counts b, total_turn counts b h, whole)) in
      check_by argument_bytes (body_of counts bodies b)
      (whole_sized argument_bytes (length (body_of counts bodies b)) n (omega arith) (few b h).0 (few b h).1)

  bodies_from : (k b at : ℕ) → b + k ≡ length counts → Searched counts bodies b at → AllBelow b (BodyRight counts bodies)
      → BodiesJudged counts bodies (broken_body counts bodies 0)
  bodies_from zero b at e s lower =
      let last : b ≡ length counts = omega arith in
      subst (BodiesJudged counts bodies) (searched_all s (omega arith))
      (unbroken (subst (λ (m : ℕ). AllBelow m (BodyRight counts bodies)) last lower))
  bodies_from (suc k) b at e s lower =
      let n : ℕ = get_or counts b 0 in
      let h : b < length counts = omega arith in
      let place : at ≡ total (take b counts) = omega (arith, s.left, total_split counts b, whole) in
      let long : at + body_bytes n - at ≡ body_bytes n = omega arith in
      let part : take (at + body_bytes n - at) (drop at bodies) ≡ body_of counts bodies b = rw (long, place) refl in
      go (scan (entries argument_bytes (take (at + body_bytes n - at) (drop at bodies))) 0 0) refl
      record { counted = refl; ends = refl; there = h; before = s }
      (body_judged b h ∙ ap (λ (l : List ℕ). verdict 0 (scan (entries argument_bytes l) 0 0)) (sym part))
      (λ here s'. bodies_from k (b + 1) (at + body_bytes n) (omega arith) s'
      (subst (λ (m : ℕ). AllBelow m (BodyRight counts bodies)) (sym (add-one b)) (below_more (BodyRight counts bodies) b lower here)))
    where
      go : (o : Option ℕ)
          → scan (entries argument_bytes (take (at + body_bytes (get_or counts b 0) - at) (drop at bodies))) 0 0 ≡ o
          → AtBody counts bodies b at (get_or counts b 0) (at + body_bytes (get_or counts b 0))
          → body_check argument_bytes (body_of counts bodies b) ≡ verdict 0 o
          → (BodyRight counts bodies b → Searched counts bodies (b + 1) (at + body_bytes (get_or counts b 0))
          → BodiesJudged counts bodies (broken_body counts bodies 0))
          → BodiesJudged counts bodies (broken_body counts bodies 0)
      go None p k c later = later c (searched_more k p)
      go (Some i) p k c later = subst (BodiesJudged counts bodies) (searched_here k p) (broken k.there lower c)

  bodies_judged : BodiesJudged counts bodies (broken_body counts bodies 0)
  bodies_judged = bodies_from (length counts) 0 0 (omega arith) (searched_none counts bodies whole) (λ j h. absurd (omega arith))

-- three tests on the count, and then the rest
abbrev pub gated : Bool → Bool → Bool → Result (Unit {0}) Refusal → Result (Unit {0}) Refusal
gated t₁ t₂ t₃ rest = cond t₁ (cond t₂ (cond t₃ rest (Err Count)) (Err Count)) (Err Count)

module _ (CountRight : Type 0) (Right : ℕ → Type 0) (counts bodies : List ℕ) (t₁ t₂ t₃ : Bool) (o : Option ℕ)
    (counted : t₁ ≡ true → t₂ ≡ true → t₃ ≡ true → CountRight)
    (tests : CountRight → (t₁ ≡ true) × (t₂ ≡ true) × (t₃ ≡ true))
    (found : CountRight → Found Right (length counts) o)
    (few : (i : ℕ) → Right i → (1 ≤ get_or counts i 0) × (get_or counts i 0 ≤ most_entries)) where
  searched : AllBelow (length counts) Right → Whole counts bodies → BodiesJudged counts bodies (broken_body counts bodies 0)
  searched all whole = bodies_judged counts bodies whole (λ i h. few i (all i h))

  with_bodies : {r : Result (Unit {0}) Refusal} → CountRight → AllBelow (length counts) Right → Whole counts bodies → BodiesJudged counts bodies r
      → Judged CountRight Right counts bodies r
  with_bodies c a w (broken h l p) = body c a w h l p
  with_bodies c a w (unbroken l) = sound c a w l

  rest_judged : CountRight → (o : Option ℕ) → Found Right (length counts) o
      → Judged CountRight Right counts bodies (on_entry o (bodies_check counts bodies))
  unfolding bodies_check
  rest_judged c (Some i) f = entry c f.0 f.1 f.2
  rest_judged c None f = go (eqb (length bodies) (total counts)) refl
    where
      go : (t : Bool) → eqb (length bodies) (total counts) ≡ t → Judged CountRight Right counts bodies (cond t (broken_body counts bodies 0) (Err Size))
      go true p = let w = eqb-true (length bodies) (total counts) p in with_bodies c f w (searched f w)
      go false p = size c f (eqb-false (length bodies) (total counts) p)

  judged : Judged CountRight Right counts bodies (gated t₁ t₂ t₃ (on_entry o (bodies_check counts bodies)))
  judged = go t₁ t₂ t₃ refl refl refl
    where
      go : (u₁ u₂ u₃ : Bool) → t₁ ≡ u₁ → t₂ ≡ u₂ → t₃ ≡ u₃
          → Judged CountRight Right counts bodies (gated u₁ u₂ u₃ (on_entry o (bodies_check counts bodies)))
      go true true true p q r = let c = counted p q r in rest_judged c o (found c)
      go true true false p q r = count (λ c. true_or_false t₃ (tests c).2 r)
      go true false u₃ p q r = count (λ c. true_or_false t₂ (tests c).1 q)
      go false u₂ u₃ p q r = count (λ c. true_or_false t₁ (tests c).0 p)

  passed : CountRight → (o' : Option ℕ) → Found Right (length counts) o'
      → gated t₁ t₂ t₃ (on_entry o (bodies_check counts bodies)) ≡ on_entry o' (bodies_check counts bodies)
  passed c o' f =
      let t = tests c in
      rw (t.0, t.1, t.2) (ap (λ (x : Option ℕ). on_entry x (bodies_check counts bodies)) (found_one Right (length counts) o o' (found c) f))

  sized : Whole counts bodies → bodies_check counts bodies ≡ broken_body counts bodies 0
  unfolding bodies_check
  sized w = rw (eq-eqb (length bodies) (total counts) w)

  called_for : {r : Result (Unit {0}) Refusal} → Judged CountRight Right counts bodies r → gated t₁ t₂ t₃ (on_entry o (bodies_check counts bodies)) ≡ r
  unfolding bodies_check
  called_for (count n) = go t₁ t₂ t₃ refl refl refl
    where
      go : (u₁ u₂ u₃ : Bool) → t₁ ≡ u₁ → t₂ ≡ u₂ → t₃ ≡ u₃ → gated u₁ u₂ u₃ (on_entry o (bodies_check counts bodies)) ≡ Err Count
      go true true true p q r = absurd (n (counted p q r))
      go true true false p q r = refl
      go true false u₃ p q r = refl
      go false u₂ u₃ p q r = refl
  called_for (entry {i} c h l b) = passed c (Some i) (h, l, b)
  called_for (size c a n) = passed c None a ∙ rw (ne_eqb (length bodies) (total counts) n)
  called_for (body c a w h l p) = passed c None a ∙ sized w ∙ bodies_one (searched a w) (broken h l p)
  called_for (sound c a w l) = passed c None a ∙ sized w ∙ bodies_one (searched a w) (unbroken l)

  -- an answer is given exactly when the rules call for it
  pub judged_exactly : (r : Result (Unit {0}) Refusal)
      → gated t₁ t₂ t₃ (on_entry o (bodies_check counts bodies)) ≡ r ↔ Judged CountRight Right counts bodies r
  judged_exactly r = (λ p. subst (Judged CountRight Right counts bodies) p judged, called_for)

-- the entries that a writer is given
module _ (names counts : List ℕ) where
  parts_from : ℕ → Option ℕ
  parts_from i = broken_entry (name_before names i) (drop (i * name_bytes) names) (drop i counts) i

  parts_turn : (i : ℕ) → i < length counts
      → parts_from i ≡ cond (entry_kept (name_before names i) (name_of names i) (get_or counts i 0)) (parts_from (suc i)) (Some i)
  unfolding parts_from broken_entry
  parts_turn i h =
      let next : i * name_bytes + name_bytes ≡ suc i * name_bytes = omega arith in
      rw (drop-cons counts i 0 h, drop-drop name_bytes (i * name_bytes) names, next, add-one i)

  parts_end : parts_from (length counts) ≡ None
  unfolding parts_from broken_entry
  parts_end = rw (drop_of_length-le counts {i = length counts} (omega arith))

  pub parts_found : Found (PartRight names counts) (length counts) (broken_entry [] names counts 0)
  unfolding parts_from
  parts_found =
      found_all (PartRight names counts) (length counts) parts_from (λ i. entry_kept (name_before names i) (name_of names i) (get_or counts i 0))
      parts_turn parts_end
      (λ i h p. entry_kept_right (name_before names i) (name_of names i) (get_or counts i 0) p)
      (λ i h k. right_kept (name_before names i) (name_of names i) (get_or counts i 0) k)

-- the entries of a file's contents
module _ (f : List ℕ) (c : FileCounted f) where
  count_of : length (counts_of f) ≡ get_or f 0 0
  count_of = length_counts (drop 1 f) (get_or f 0 0)

  name_there : (i : ℕ) → i < get_or f 0 0 → take name_bytes (contents_from f i) ≡ name_of (names_of f) i
  name_there i h = name_held (drop 1 f) (get_or f 0 0) i h (omega (arith, c.held, length-drop 1 f))

  count_there : (i : ℕ) → i < get_or f 0 0 → get_or (contents_from f i) 10 0 ≡ get_or (counts_of f) i 0
  count_there i h = count_held (drop 1 f) (get_or f 0 0) i h

  contents_fault_from : ℕ → Option ℕ
  contents_fault_from i = broken_content (name_before (names_of f) i) (contents_from f i) (get_or f 0 0 - i) (body_at (counts_of f) i) i

  contents_turn : (i : ℕ) → i < get_or f 0 0
      → contents_fault_from i ≡ cond (content_kept (name_before (names_of f) i) (contents_from f i) (body_at (counts_of f) i)) (contents_fault_from (suc i)) (Some i)
  unfolding contents_fault_from broken_content
  contents_turn i h =
      let next : contents_bytes * i + contents_bytes ≡ contents_bytes * suc i = omega arith in
      let offset : body_at (counts_of f) i + body_bytes (get_or (counts_of f) i 0) ≡ body_at (counts_of f) (suc i) =
      omega (arith, total_more (counts_of f) i (omega (arith, count_of))) in
      rw (
        left_suc (get_or f 0 0) i h,
        name_there i h,
        count_there i h,
        offset,
        drop-drop contents_bytes (contents_bytes * i) (drop 1 f),
        next,
        add-one i,
      )

  contents_end : contents_fault_from (get_or f 0 0) ≡ None
  unfolding contents_fault_from broken_content
  contents_end = rw (left_zero (get_or f 0 0) (get_or f 0 0) (omega arith))

  content_right : (i : ℕ) → i < get_or f 0 0
      → content_kept (name_before (names_of f) i) (contents_from f i) (body_at (counts_of f) i) ≡ true → ContentRight f i
  content_right i h p =
      let k = content_kept_right (name_before (names_of f) i) (contents_from f i) (body_at (counts_of f) i) p in
      record {
        entry = entry_kept_right (name_before (names_of f) i) (name_of (names_of f) i) (get_or (counts_of f) i 0)
            (rw (← name_there i h, ← count_there i h) k.entry);
        begins = k.begins;
        zeros = k.zeros;
      }

  right_content : (i : ℕ) → i < get_or f 0 0 → ContentRight f i
      → content_kept (name_before (names_of f) i) (contents_from f i) (body_at (counts_of f) i) ≡ true
  unfolding content_kept
  right_content i h k =
      let e : entry_kept (name_before (names_of f) i) (take name_bytes (contents_from f i)) (get_or (contents_from f i) 10 0) ≡ true =
      rw (name_there i h, count_there i h) (right_kept (name_before (names_of f) i) (name_of (names_of f) i) (get_or (counts_of f) i 0) k.entry) in
      rw (
        e,
        eq-eqb (value_at 2 (contents_from f i) 8) (body_at (counts_of f) i) k.begins,
        eq-eqb (get_or (contents_from f i) 11 0) 0 k.zeros,
      )

  pub contents_found : Found (ContentRight f) (length (counts_of f)) (broken_content [] (drop 1 f) (get_or f 0 0) (bodies_at (get_or f 0 0)) 0)
  unfolding contents_fault_from total
  contents_found =
      let first : body_at (counts_of f) 0 ≡ bodies_at (get_or f 0 0) = omega (arith, count_of) in
      let all =
      found_all (ContentRight f) (get_or f 0 0) contents_fault_from
      (λ i. content_kept (name_before (names_of f) i) (contents_from f i) (body_at (counts_of f) i)) contents_turn contents_end content_right right_content in
      rw count_of (rw (sub-zero (get_or f 0 0), first) at all)
