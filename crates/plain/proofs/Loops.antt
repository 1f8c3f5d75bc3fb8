-- The loop over a body's entries: after i entries the rows of each show the instances of the pattern that it ends, and the trees that
-- no operator has taken yet are known by the entries that end them. Assumes nothing.
use mathlib.Core.Path.{◌≡◌, refl, sym, ap, ap₂, ◌∙◌, subst}
use mathlib.Core.Logic.{inl, inr}
use mathlib.Core.List.{List, [], ◌∷◌, ◌++◌, append_assoc, append-nil}
use Prim.Native.Nat.{ℕ, ◌+◌, ◌-◌, ◌*◌, ◌/◌, ◌≤◌, ◌<◌}
use native.Mathlib.Omega.{arith}
use native.Mathlib.Decide.{ℕ_discrete}
use native.Mathlib.Nat.{sub-zero}
use lib.ListN.{get_or, length, length-append, get_or-append}
use lib.Seq.{get_or_at}
use Rattle.std.specs.Prelude.{Ok}
use Rattle.rules.specs.declared.Op.{Op}
use Rattle.rules.specs.Limits.{argument_bytes}
use Rattle.rules.specs.Pattern.{Pattern, event, pair, within}
use Rattle.rules.specs.Instances.{Record, Instances, Occurs, Rule, Short, Has}
use Rattle.body.specs.declared.Entry.{Entry}
use Rattle.body.specs.declared.Entry.TheVariants.{Letter, Pair, Within, Wrong}
use Rattle.body.specs.Entry.{entries_by, entry_at, entries}
use Rattle.body.proofs.Walk.{Rest, rest_letter, rest_pair, rest_within, rest_wrong, sound_start}
use Rattle.body.proofs.Scan.{left_zero}
use Rattle.body.proofs.Bodies.{entries_encode}
use Rattle.plain.specs.Rows.{Shown, rows_of, worded, parts, Written}
use Rattle.plain.specs.Answer.{Ready, RowsAfter}
use Rattle.plain.specs.inner.Fill.{Filled}
use Rattle.plain.proofs.Fills.{same_rows}
use Rattle.plain.proofs.Steps.{Same, letter_inside, filled_same, filled_rule, filled_short}
use Rattle.plain.proofs.Ends.{ends, ends_letter, ends_pair, ends_within, ends_whole, Below, below_more, patterns, patterns_more}

-- the rows of one entry more are written, which show the instances of its pattern q
written_more : (r : Record) (done : List Pattern) (q : Pattern) (old rows rows' : List ℕ) (X : Instances) (i : ℕ) → length done ≡ i → i * 64 ≤ length old
    → Written r done old rows → length rows' ≡ length rows → Filled X i rows rows' → Same (Shown (rows_of rows' i)) (Has r q)
    → Written r (done ++ (q ∷ [])) old rows'
written_more r done q old rows rows' X i count room v el fill shown = record {
  long = el ∙ v.long;
  shown = λ k l. at k (omega (arith, l, length-append done (q ∷ []), count)) (ℕ_discrete k i);
  kept = λ j l. fill.kept j (inr (omega (arith, l, length-append done (q ∷ []), count))) ∙ v.kept j (omega (arith, l, length-append done (q ∷ [])));
}
  where
    at : (k : ℕ) → k < i + 1 → Dec (k ≡ i) → Same (Shown (rows_of rows' k)) (Has r (get_or (done ++ (q ∷ [])) k (event 0)))
    at k l (yes e) = rw (e, get_or_at done q [] (event 0) i count) shown
    at k l (no e) =
        let o : rows_of rows' k ≡ rows_of rows k = same_rows rows' rows k i (omega arith) (omega (arith, room, v.long, el)) el (λ j m. fill.kept j (inl m)) in
        rw (o, get_or-append done (q ∷ []) (event 0) k (omega (arith, count))) (v.shown k (omega (arith, count)))

-- after i entries: the patterns that they end, whose rows are written, and the trees, each by the entry that ends it
pub record Filling (b words old : List ℕ) (n : ℕ) (rows trees : List ℕ) (i : ℕ) : Type 0 where
  pub few : n ≤ 63
  pub room : n * 64 ≤ length old
  pub short : length words ≤ 64
  pub deep : length trees ≤ i
  pub below : Below i trees
  pub rest : Rest (entry_at argument_bytes b) n i (length trees)
  pub done : List Pattern
  pub count : length done ≡ i
  pub written : Written (worded words) done old rows
  pub whole : done ++ ends (entries_by (entry_at argument_bytes b) i (n - i)) (patterns done trees) ≡ ends (entries_by (entry_at argument_bytes b) 0 n) []

pub filling_none : {b words old : List ℕ} → Ready b words old → Filling b words old (length b / (argument_bytes + 1)) old [] 0
filling_none {b} r =
    let w = sound_start argument_bytes b r.sound in
    record {
      few = w.most;
      room = r.room;
      short = r.short;
      deep = omega arith;
      below = tt;
      rest = w.rest;
      done = [];
      count = refl;
      written = record { long = refl; shown = λ k h. absurd (omega arith); kept = λ j h. refl };
      whole = ap (λ (k : ℕ). ends (entries_by (entry_at argument_bytes b) 0 k) []) (sub-zero (length b / (argument_bytes + 1)));
    }

module _ {b words old : List ℕ} {n : ℕ} {rows trees : List ℕ} {i : ℕ} (v : Filling b words old n rows trees i) (h : i < n) where
  pub pair_two : {op : Op} → entry_at argument_bytes b i ≡ Pair op → 1 < length trees
  pair_two e = (rest_pair (entry_at argument_bytes b) n i (length trees) h v.rest _ e).0

  pub within_one : {a : ℕ} → entry_at argument_bytes b i ≡ Within a → 0 < length trees
  within_one e = (rest_within (entry_at argument_bytes b) n i (length trees) h v.rest _ e).0

  pub never_wrong : entry_at argument_bytes b i ≡ Wrong → ⊥
  never_wrong e = rest_wrong (entry_at argument_bytes b) n i (length trees) h v.rest e

  -- the trees that a restriction and an operator take are those of entries before
  pub one_below : {x : ℕ} {ks : List ℕ} → trees ≡ x ∷ ks → Below i (x ∷ ks)
  one_below e = rw e at v.below

  pub two_below : {x y : ℕ} {t ks : List ℕ} → trees ≡ y ∷ t → t ≡ x ∷ ks → Below i (y ∷ x ∷ ks)
  two_below e f = rw f at (one_below e)

  module _ {rows' : List ℕ} (el : length rows' ≡ length rows) where
    -- entry i ends the pattern q, whose rows are filled in, and leaves the trees ks below its own
    filling_more : {X : Instances} (q : Pattern) (ks : List ℕ) (d : ℕ) → Filled X i rows rows' → Same (Shown (rows_of rows' i)) (Has (worded words) q)
        → length ks ≤ i → Below i ks → d ≡ length ks + 1 → Rest (entry_at argument_bytes b) n (i + 1) d
        → ends (entries_by (entry_at argument_bytes b) i (n - i)) (patterns v.done trees)
        ≡ q ∷ ends (entries_by (entry_at argument_bytes b) (i + 1) (n - (i + 1))) (q ∷ patterns v.done ks)
        → Filling b words old n rows' (i ∷ ks) (i + 1)
    filling_more {X} q ks d fill shown deep below ed rest turned = record {
      few = v.few;
      room = v.room;
      short = v.short;
      deep = omega (arith, deep);
      below = (omega arith, below_more i ks below);
      rest = subst (Rest (entry_at argument_bytes b) n (i + 1)) (omega (arith, ed)) rest;
      done = v.done ++ (q ∷ []);
      count = length-append v.done (q ∷ []) ∙ omega (arith, v.count);
      written = written_more (worded words) v.done q old rows rows' X i v.count (omega (arith, v.room)) v.written el fill shown;
      whole =
          ap (λ (l : List Pattern). (v.done ++ (q ∷ [])) ++ ends (entries_by (entry_at argument_bytes b) (i + 1) (n - (i + 1))) l) stands
          ∙ append_assoc v.done (q ∷ []) _ ∙ ap (λ (l : List Pattern). v.done ++ l) (sym turned) ∙ v.whole;
    }
      where
        stands : patterns (v.done ++ (q ∷ [])) (i ∷ ks) ≡ q ∷ patterns v.done ks
        stands =
            ap₂ (λ (p : Pattern) (l : List Pattern). p ∷ l) (get_or_at v.done q [] (event 0) i v.count)
            (patterns_more v.done q ks (rw v.count below))

    pub filling_letter : {a : ℕ} → entry_at argument_bytes b i ≡ Letter a → Filled (Occurs (worded words) a) i rows rows'
        → Filling b words old n rows' (i ∷ trees) (i + 1)
    filling_letter {a} e fill =
        filling_more (event a) trees (length trees + 1) fill (filled_same _ i rows rows' (letter_inside words a v.short) fill)
        v.deep v.below refl (rest_letter (entry_at argument_bytes b) n i (length trees) h v.rest a e)
        (ends_letter (entry_at argument_bytes b) n i h a (patterns v.done trees) e)

    pub filling_pair : {op : Op} {x y : ℕ} {t ks : List ℕ} → entry_at argument_bytes b i ≡ Pair op → trees ≡ y ∷ t → t ≡ x ∷ ks
        → Filled (Rule op (Shown (rows_of rows x)) (Shown (rows_of rows y))) i rows rows'
        → Filling b words old n rows' (i ∷ ks) (i + 1)
    filling_pair {op} {x} {y} {t} {ks} e ey ex fill =
        let below : Below i (y ∷ x ∷ ks) = two_below ey ex in
        let p : ℕ → Pattern = λ k. get_or v.done k (event 0) in
        let l : length trees ≡ length ks + 2 = omega (arith, ap length ey, ap length ex) in
        filling_more (pair op (p x) (p y)) ks (length trees - 1) fill
        (filled_rule op x y i rows rows' _ _ (v.written.shown x (omega (arith, below.1.0, v.count))) (v.written.shown y (omega (arith, below.0, v.count))) fill)
        (omega (arith, v.deep, l)) below.1.1 (omega (arith, l)) (rest_pair (entry_at argument_bytes b) n i (length trees) h v.rest op e).1
        (ap (λ l. ends (entries_by (entry_at argument_bytes b) i (n - i)) (patterns v.done l)) (ey ∙ ap (λ l. y ∷ l) ex)
        ∙ ends_pair (entry_at argument_bytes b) n i h op (p x) (p y) (patterns v.done ks) e)

    pub filling_within : {a x : ℕ} {ks : List ℕ} → entry_at argument_bytes b i ≡ Within a → trees ≡ x ∷ ks
        → Filled (Short a (Shown (rows_of rows x))) i rows rows'
        → Filling b words old n rows' (i ∷ ks) (i + 1)
    filling_within {a} {x} {ks} e ex fill =
        let below : Below i (x ∷ ks) = one_below ex in
        let p : ℕ → Pattern = λ k. get_or v.done k (event 0) in
        let l : length trees ≡ length ks + 1 = omega (arith, ap length ex) in
        filling_more (within (p x) a) ks (length trees) fill
        (filled_short a x i rows rows' _ (v.written.shown x (omega (arith, below.0, v.count))) fill)
        (omega (arith, v.deep, l)) below.1 l (rest_within (entry_at argument_bytes b) n i (length trees) h v.rest a e).1
        (ap (λ l. ends (entries_by (entry_at argument_bytes b) i (n - i)) (patterns v.done l)) ex
        ∙ ends_within (entry_at argument_bytes b) n i h a (p x) (patterns v.done ks) e)

-- when all entries are filled, the rows are those of the body's pattern
pub filling_all : {b words old rows trees : List ℕ} {i : ℕ} → Filling b words old (length b / (argument_bytes + 1)) rows trees i → length b / (argument_bytes + 1) ≤ i
    → RowsAfter b words old rows (Ok tt)
unfolding ends entries entries_by
filling_all {b} {words} {old} {rows} {trees} {i} v h e body = subst (λ (l : List Pattern). Written (worded words) l old rows) all_done v.written
  where
    read : ends (entries_by (entry_at argument_bytes b) 0 (length b / (argument_bytes + 1))) [] ≡ parts e
    read =
        ap (λ (l : List Entry). ends l []) (ap (entries argument_bytes) body.same ∙ entries_encode argument_bytes (omega arith) e body.bodied.proper)
        ∙ ends_whole e

    all_done : v.done ≡ parts e
    all_done =
        sym (append-nil v.done)
        ∙ ap (λ (k : ℕ). v.done ++ ends (entries_by (entry_at argument_bytes b) i k) (patterns v.done trees)) (sym (left_zero (length b / (argument_bytes + 1)) i h))
        ∙ v.whole ∙ read
