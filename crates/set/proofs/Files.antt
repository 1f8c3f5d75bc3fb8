-- A sound file holds patterns, each where its contents say; and a walk over them, a pattern at a time. Assumes nothing.
use Rattle.std.specs.Prelude.{None, Ok}
use Prim.Native.Nat.{ℕ, suc, ◌+◌, ◌≤◌, ◌<◌}
use mathlib.Core.Path.{◌≡◌, refl, sym, ap, ap₂, subst, ◌∙◌}
use mathlib.Core.List.{List, [], ◌∷◌, ◌++◌, append_assoc}
use native.Mathlib.Omega.{arith}
use lib.ListN.{length, get_or, take, drop, length-append, length-take, length-drop, take-append-drop}
use lib.Seq.{drop-drop, take_at, drop_at, length-take-le}
use Rattle.rules.specs.Limits.{argument_bytes, most_patterns}
use Rattle.rules.specs.Lists.{All}
use Rattle.rules.specs.Pattern.{Pattern, size}
use Rattle.body.specs.Bytes.{Bytes}
use Rattle.body.specs.Postfix.{encode, Bodied}
use Rattle.body.proofs.Bytes.{bytes_take, bytes_drop}
use Rattle.body.proofs.Trees.{size_pos}
use Rattle.body.proofs.Bodies.{length_encode, sound_pattern}
use Rattle.file.specs.Contents.{body_bytes, name_bytes, total, body_at, body_of}
use Rattle.file.specs.Check.{broken_entry, broken_body, file_check}
use Rattle.file.specs.Place.{place_at, pattern_count}
use Rattle.file.proofs.Checks.{parts_sound, entry_kept_right, entries_first}
use Rattle.file.proofs.Files.{accepted_parts, written_sound}
use Rattle.file.proofs.Placed.{bodies_first, body_valid}
use Rattle.file.proofs.Theorem.{bodies_placed}
use Rattle.set.specs.Set.{Few}
use Rattle.set.specs.File.{sizes, bodies_of, Holds}
use Rattle.set.specs.inner.Calls.{PatternAt}

no_words : (l : List ℕ) → length l ≡ 0 → l ≡ []
no_words [] h = refl
no_words (x ∷ l) h = absurd (omega arith)

no_patterns : (l : List Pattern) → length l ≡ 0 → l ≡ []
no_patterns [] h = refl
no_patterns (x ∷ l) h = absurd (omega arith)

-- numbers of entries and bodies that break no rule are those of patterns
record Found (counts bodies : List ℕ) : Type 0 where
  patterns : List Pattern
  counted : counts ≡ sizes patterns
  same : bodies ≡ bodies_of patterns
  bodied : All (Bodied argument_bytes) patterns

patterns_of : (before names counts bodies : List ℕ) (i b : ℕ) → broken_entry before names counts i ≡ None → length bodies ≡ total counts
    → broken_body counts bodies b ≡ Ok tt → Bytes bodies → Found counts bodies
unfolding sizes bodies_of total
patterns_of before names [] bodies i b p l q w = record { patterns = []; counted = refl; same = no_words bodies l; bodied = tt }
patterns_of before names (n ∷ counts) bodies i b p l q w =
    let first = entries_first before names n counts i p in
    let entry = entry_kept_right _ _ n first.0 in
    let each = bodies_first n counts bodies b q in
    let body : List ℕ = take (body_bytes n) bodies in
    let long : length body ≡ body_bytes n = length-take-le (body_bytes n) bodies (omega arith) in
    let e = sound_pattern argument_bytes body (bytes_take (body_bytes n) bodies w) (body_valid body n entry.least entry.most long each.0) in
    let count : n ≡ size e.0 = omega (arith, ap length e.1.same, length_encode argument_bytes e.0) in
    let rest =
    patterns_of (take name_bytes names) (drop name_bytes names) counts (drop (body_bytes n) bodies) (i + 1) (b + 1) first.1
    (omega (arith, length-drop (body_bytes n) bodies)) each.1 (bytes_drop (body_bytes n) bodies w) in
    record {
      patterns = e.0 ∷ rest.patterns;
      counted = ap₂ (λ (k : ℕ) (l : List ℕ). k ∷ l) count rest.counted;
      same = sym (take-append-drop (body_bytes n) bodies) ∙ ap₂ (λ (x y : List ℕ). x ++ y) e.1.same rest.same;
      bodied = (e.1.bodied, rest.bodied);
    }

pub sound_holds : (f : List ℕ) → Bytes f → file_check f ≡ Ok tt → (es : List Pattern) × Holds f es
sound_holds f w p =
    let k = accepted_parts f w p in
    let s = parts_sound k.names k.counts k.bodies k.parts.sound in
    let x = patterns_of [] k.names k.counts k.bodies 0 0 s.kept s.valid.full s.valid.unbroken k.bodies_bytes in
    (x.patterns, record { names = k.names; parts = rw (← x.counted, ← x.same) k.parts; bodied = x.bodied })

-- the number of entries of a pattern among others, and its body
size_there : (front : List Pattern) (e : Pattern) (back : List Pattern) → get_or (sizes (front ++ (e ∷ back))) (length front) 0 ≡ size e
unfolding sizes
size_there [] e back = refl
size_there (x ∷ front) e back = size_there front e back

body_there : (front : List Pattern) (e : Pattern) (back : List Pattern)
    → body_of (sizes (front ++ (e ∷ back))) (bodies_of (front ++ (e ∷ back))) (length front) ≡ encode argument_bytes e
unfolding sizes bodies_of total
body_there [] e back = take_at (encode argument_bytes e) (bodies_of back) (body_bytes (size e)) (omega (arith, length_encode argument_bytes e))
body_there (x ∷ front) e back =
    let counts : List ℕ = sizes (front ++ (e ∷ back)) in
    let bodies : List ℕ = bodies_of (front ++ (e ∷ back)) in
    let passed : drop (body_bytes (size x)) (encode argument_bytes x ++ bodies) ≡ bodies =
    drop_at (encode argument_bytes x) bodies (body_bytes (size x)) (omega (arith, length_encode argument_bytes x)) in
    rw (← drop-drop (total (take (length front) counts)) (body_bytes (size x)) (encode argument_bytes x ++ bodies), passed) (body_there front e back)

length_sizes : (es : List Pattern) → length (sizes es) ≡ length es
unfolding sizes
length_sizes [] = refl
length_sizes (e ∷ es) = ap suc (length_sizes es)

bodied_at : (front : List Pattern) (e : Pattern) (back : List Pattern) → All (Bodied argument_bytes) (front ++ (e ∷ back)) → Bodied argument_bytes e
bodied_at [] e back b = b.0
bodied_at (x ∷ front) e back b = bodied_at front e back b.1

-- a part with as many bytes as were asked for lies within its list
part_within : (l : List ℕ) (from long : ℕ) → 1 ≤ long → length (take long (drop from l)) ≡ long → from + long ≤ length l
part_within l from long h e = omega (arith, length-take long (drop from l), length-drop from l)

module _ {f : List ℕ} {es : List Pattern} (h : Holds f es) where
  pub holds_sound : file_check f ≡ Ok tt
  holds_sound = ap file_check h.parts.same ∙ written_sound h.names (sizes es) (bodies_of es) h.parts.sound

  pub holds_count : pattern_count f ≡ length es
  holds_count = (bodies_placed f h.names (sizes es) (bodies_of es) h.parts).0 ∙ length_sizes es

  pub holds_few : Few (length es)
  holds_few =
      let s = parts_sound h.names (sizes es) (bodies_of es) h.parts.sound in
      (omega (arith, s.least, length_sizes es), omega (arith, s.most, length_sizes es))

  pattern_at : (front : List Pattern) (e : Pattern) (back : List Pattern) → es ≡ front ++ (e ∷ back) → PatternAt f (length front) e
  pattern_at front e back q =
      let i : ℕ = length front in
      let n : ℕ = get_or (sizes es) i 0 in
      let inside : i < length (sizes es) = omega (arith, length_sizes es, ap length q, length-append front (e ∷ back)) in
      let k = (bodies_placed f h.names (sizes es) (bodies_of es) h.parts).1 i inside in
      let same : take (body_bytes n) (drop (body_at (sizes es) i) f) ≡ encode argument_bytes e =
      k.1 ∙ ap (λ (l : List Pattern). body_of (sizes l) (bodies_of l) i) q ∙ body_there front e back in
      let count : n ≡ size e = ap (λ (l : List Pattern). get_or (sizes l) i 0) q ∙ size_there front e back in
      record {
        place = place_at (body_at (sizes es) i) (body_bytes n);
        found = k.0;
        within = part_within f (body_at (sizes es) i) (body_bytes n) (omega (arith, size_pos e)) (ap length same ∙ omega (arith, length_encode argument_bytes e));
        body = record { bodied = bodied_at front e back (subst (All (Bodied argument_bytes)) q h.bodied); same = same };
      }

-- before pattern number i of the patterns of a file: those before it, and the rest
pub record Ahead (f : List ℕ) (es : List Pattern) (count i : ℕ) (rest : List Pattern) : Type 0 where
  pub file : Holds f es
  pub counted : count ≡ length es
  pub front : List Pattern
  pub split : es ≡ front ++ rest
  pub place : i ≡ length front

pub ahead_start : {f : List ℕ} {es : List Pattern} (count : ℕ) → count ≡ pattern_count f → Holds f es → Ahead f es count 0 es
ahead_start count q h = record { file = h; counted = q ∙ holds_count h; front = []; split = refl; place = refl }

-- pattern number i, and those after it
pub record Next (f : List ℕ) (es : List Pattern) (count i : ℕ) (rest : List Pattern) : Type 0 where
  pub pattern : Pattern
  pub others : List Pattern
  pub same : rest ≡ pattern ∷ others
  pub found : PatternAt f i pattern
  pub ahead : Ahead f es count (i + 1) others

module _ {f : List ℕ} {es : List Pattern} {count i : ℕ} {rest : List Pattern} (x : Ahead f es count i rest) where
  whole : length es ≡ i + length rest
  whole = omega (arith, ap length x.split, length-append x.front rest, x.place)

  pub ahead_few : i ≤ most_patterns
  ahead_few = omega (arith, whole, (holds_few x.file).1)

  pub ahead_end : count ≤ i → rest ≡ []
  ahead_end h = no_patterns rest (omega (arith, whole, x.counted))

  pub ahead_more : i < count → Next f es count i rest
  ahead_more h = go rest refl
    where
      go : (l : List Pattern) → rest ≡ l → Next f es count i rest
      go [] q = absurd (omega (arith, whole, x.counted, ap length q))
      go (e ∷ l) q =
          let split : es ≡ x.front ++ (e ∷ l) = x.split ∙ ap (λ (k : List Pattern). x.front ++ k) q in
          record {
            pattern = e;
            others = l;
            same = q;
            found = subst (λ (k : ℕ). PatternAt f k e) (sym x.place) (pattern_at x.file x.front e l split);
            ahead = record {
              file = x.file;
              counted = x.counted;
              front = x.front ++ (e ∷ []);
              split = split ∙ sym (append_assoc x.front (e ∷ []) l);
              place = omega (arith, x.place, length-append x.front (e ∷ []));
            };
          }
