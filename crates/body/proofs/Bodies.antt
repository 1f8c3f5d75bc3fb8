-- A body is accepted exactly if it is the body of a pattern, of one pattern only; a refusal names the lowest entry that breaks a rule.
-- Bytes and entries give each other back, and entries and trees too. Assumes nothing.
use Rattle.std.specs.Prelude.{Err, None, Ok, Option, Some}
use Prim.Native.Nat.{ℕ, zero, suc, ◌+◌, ◌*◌, ◌/◌, ◌≤◌, ◌^◌}
use mathlib.Core.Path.{◌≡◌, refl, sym, ap, subst, ◌∙◌}
use mathlib.Core.Bool.{Bool, true, false}
use mathlib.Core.Logic.{◌⊎◌, inl, inr}
use mathlib.Core.List.{List, [], ◌∷◌, append-nil}
use native.Mathlib.Omega.{arith}
use lib.ListN.{length}
use Rattle.rules.proofs.Decisions.{true_or_false}
use Rattle.rules.specs.Pattern.{Pattern, event, pair, within, size, Proper}
use Rattle.refusal.specs.declared.Refusal.TheVariants.{Size}
use Rattle.refusal.specs.Table.{broken_at}
use Rattle.body.specs.declared.Entry.{Entry}
use Rattle.body.specs.Bytes.{Bytes}
use Rattle.body.specs.Entry.{entries_bytes, entries_by, entry_at, entries}
use Rattle.body.specs.Postfix.{postfix, encode, Bodied}
use Rattle.body.specs.Check.{scan, sized, verdict, check_of}
use Rattle.body.specs.inner.Machine.{Machine, run, eval}
use Rattle.body.specs.Claim.{BodyOf, AcceptedExactly, OnePattern, forest, RefusedLowest, LowestRefused, Counted, RefusedSize, Answered}
use Rattle.body.proofs.Entries.{length_entries, entries_read_back, entries_fit, read_fits, bytes_entries}
use Rattle.body.proofs.Sizes.{sized_whole, whole_count, whole_sized, sound_parts, body_parts, size_part, check_by, check_size}
use Rattle.body.proofs.Trees.{size_pos, length_postfix, proper_fits, fits_proper, scan_postfix}
use Rattle.body.proofs.Trees.{Outcome, scan_outcome, scan_tree, lowest_le, lowest_scan}
use Rattle.body.proofs.Machines.{run_postfix}

-- the body of a pattern
pub length_encode : (width : ℕ) (e : Pattern) → length (encode width e) ≡ (width + 1) * size e
unfolding encode
length_encode width e = length_entries width (postfix e) ∙ ap (λ (n : ℕ). (width + 1) * n) (length_postfix e)

pub entries_encode : (width : ℕ) → 1 ≤ width → (e : Pattern) → Proper (256 ^ width) e → entries width (encode width e) ≡ postfix e
unfolding encode entries
entries_encode width w e h =
    let b : List ℕ = entries_bytes width (postfix e) in
    rw (whole_count width (length b) (length (postfix e)) (length_entries width (postfix e)))
    (entries_read_back width w (postfix e) (proper_fits (256 ^ width) e h))

pub scan_whole : (e : Pattern) → scan (postfix e) 0 0 ≡ None
unfolding scan
scan_whole e = rw (append-nil (postfix e)) at (scan_postfix e [] 0 0)

pub encode_sound : (width : ℕ) → 1 ≤ width → (e : Pattern) → Bodied width e → check_of width (encode width e) ≡ Ok tt
encode_sound width w e h =
    check_by width (encode width e)
    (whole_sized width (length (encode width e)) (size e) (length_encode width e) (size_pos e) h.few)
    ∙ ap (verdict 0) (ap (λ (es : List Entry). scan es 0 0) (entries_encode width w e h.proper) ∙ scan_whole e)

-- the number of entries
pub length_by : (f : ℕ → Entry) (i n : ℕ) → length (entries_by f i n) ≡ n
unfolding entries_by
length_by f i zero = refl
length_by f i (suc n) = ap suc (length_by f (i + 1) n)

pub length_read : (width : ℕ) (b : List ℕ) → length (entries width b) ≡ length b / (width + 1)
unfolding entries
length_read width b = length_by (entry_at width b) 0 (length b / (width + 1))

-- what the scan of a body of the right length finds
scanned : (width : ℕ) (b : List ℕ) (o : Option ℕ) → sized width (length b) ≡ true → scan (entries width b) 0 0 ≡ o → Outcome (entries width b) o
unfolding forest
scanned width b o p q =
    subst (Outcome (entries width b)) q
    (scan_outcome (entries width b) [] 0 refl (omega (arith, length_read width b, (sized_whole width (length b) p).least)))

-- the entries of b are those of the pattern e
pub record TreeOf (width : ℕ) (b : List ℕ) (e : Pattern) : Type 0 where
  pub bodied : Bodied width e
  pub read : entries width b ≡ postfix e

-- from a sound body to its pattern: by entries, and by bytes
pub sound_tree : (width : ℕ) (b : List ℕ) → check_of width b ≡ Ok tt → (e : Pattern) × TreeOf width b e
unfolding entries
sound_tree width b p =
    let parts = sound_parts width b p in
    let whole = sized_whole width (length b) parts.0 in
    let n : ℕ = length b / (width + 1) in
    let found : (e : Pattern) × (entries width b ≡ postfix e) = scan_tree (entries width b) parts.1 in
    let e : Pattern = found.0 in
    let fit = entries_fit (Unit {0}) (256 ^ width) (entry_at width b) (read_fits width b) 0 n in
    let proper = fits_proper (Unit {0}) (256 ^ width) e (rw found.1 at fit) in
    let count : size e ≡ n = sym (length_postfix e) ∙ ap length (sym found.1) ∙ length_read width b in
    (e, record { bodied = record { proper = proper; few = omega (arith, whole.most) }; read = found.1 })

pub sound_pattern : (width : ℕ) (b : List ℕ) → Bytes b → check_of width b ≡ Ok tt → (e : Pattern) × BodyOf width b e
unfolding entries encode
sound_pattern width b w p =
    let whole = sized_whole width (length b) (sound_parts width b p).0 in
    let found = sound_tree width b p in
    let e : Pattern = found.0 in
    let fit = proper_fits (256 ^ width) e found.1.bodied.proper in
    let back = bytes_entries width (length b / (width + 1)) b w whole.full (rw (sym found.1.read) at fit) in
    (e, record { bodied = found.1.bodied; same = sym back ∙ ap (entries_bytes width) found.1.read })

pub accepted_exactly : (width : ℕ) → 1 ≤ width → AcceptedExactly width
accepted_exactly width w b h = (
  sound_pattern width b h,
  λ f. ap (check_of width) f.1.same ∙ encode_sound width w f.0 f.1.bodied,
)

-- the machine that builds the tree again
abbrev builder : Machine
builder = record {
  X = Pattern;
  G = Unit {0};
  on_letter = λ n g. (event n, g);
  on_pair = λ op x y g. (pair op x y, g);
  on_within = λ n x g. (within x n, g);
}

built : (e : Pattern) → eval builder e tt ≡ (e, tt)
unfolding eval
built (event n) = refl
built (pair op x y) = rw (built x, built y)
built (within x n) = rw (built x)

rebuilt : (e : Pattern) → run builder (postfix e) [] tt ≡ (e ∷ [], tt)
unfolding run
rebuilt e = rw (append-nil (postfix e), built e) at (run_postfix builder e [] [] tt)

-- a tree is known by its entries
pub postfix_unique : (e e' : Pattern) → postfix e ≡ postfix e' → e ≡ e'
postfix_unique e e' p =
    let q : e ∷ [] ≡ e' ∷ [] = ap (λ (r : List Pattern × Unit {0}). r.0) (sym (rebuilt e) ∙ rw p (rebuilt e')) in
    cc

pub one_pattern : (width : ℕ) → 1 ≤ width → OnePattern width
one_pattern width w b e e' h h' =
    postfix_unique e e'
    (sym (entries_encode width w e h.bodied.proper)
    ∙ ap (entries width) (sym h.same ∙ h'.same)
    ∙ entries_encode width w e' h'.bodied.proper)

pub refused_lowest : (width : ℕ) → RefusedLowest width
refused_lowest width b i p =
    let parts = body_parts width b i p in
    scanned width b (Some i) parts.0 parts.1

counted_sized : (width n : ℕ) → Counted width n → sized width n ≡ true
counted_sized width n c = whole_sized width n c.count c.full c.least c.most

sized_counted : (width n : ℕ) → sized width n ≡ true → Counted width n
sized_counted width n p =
    let w = sized_whole width n p in
    record { count = n / (width + 1); full = w.full; least = w.least; most = w.most }

not_true : (t : Bool) → (t ≡ true → ⊥) → t ≡ false
not_true true h = absurd (h refl)
not_true false h = refl

pub lowest_refused : (width : ℕ) → LowestRefused width
lowest_refused width b i c l =
    check_by width b (counted_sized width (length b) c) ∙ ap (verdict 0) (lowest_scan (entries width b) i l)

pub refused_size : (width : ℕ) → RefusedSize width
refused_size width b = (
  λ p c. true_or_false (sized width (length b)) (counted_sized width (length b) c) (size_part width b p),
  λ n. check_size width b (not_true (sized width (length b)) (λ p. n (sized_counted width (length b) p))),
)

pub answered : (width : ℕ) → Answered width
answered width b = go (sized width (length b)) (scan (entries width b) 0 0) refl refl
  where
    go : (t : Bool) (o : Option ℕ) → sized width (length b) ≡ t → scan (entries width b) 0 0 ≡ o
        → (check_of width b ≡ Ok tt)
        ⊎ (check_of width b ≡ Err Size)
        ⊎ ((i : ℕ) × (i ≤ length (entries width b)) × (check_of width b ≡ Err (broken_at 0 i)))
    go true None p q = inl (check_by width b p ∙ ap (verdict 0) q)
    go true (Some i) p q =
        inr (inr (i, lowest_le (entries width b) i (scanned width b (Some i) p q), check_by width b p ∙ ap (verdict 0) q))
    go false o p q = inr (inl (check_size width b p))
