-- The form judged is the form stated: on a tree the judge takes exactly the words of a memory in form, and the entries are a tree's.
-- Assumes nothing.
use Rattle.std.specs.Prelude.{None, Option, Some}
use Rattle.std.specs.Option.{is_some}
use Prim.Native.Nat.{ℕ, ◌+◌, ◌-◌, ◌≤◌, ◌^◌}
use mathlib.Core.Path.{◌≡◌, refl, sym, ap, ap₂, subst, ◌∙◌}
use mathlib.Core.Bool.{Bool, true, false, cond}
use mathlib.Core.List.{List, [], ◌∷◌, ◌++◌}
use native.Mathlib.Omega.{arith}
use lib.Dec.{leb}
use lib.ListN.{length, take, drop, length-append, take-append-drop}
use lib.Seq.{take_at, drop_at, length-take-le}
use borrow.Author.Tests.{le-leb, leb-true}
use Rattle.body.proofs.Bodies.{scan_whole}
use Rattle.rules.proofs.Decisions.{both_true}
use Rattle.rules.proofs.Impossible.{impossible}
use Rattle.rules.specs.declared.Op.{Op}
use Rattle.rules.specs.Limits.{argument_bytes, most_entries, ticks}
use Rattle.rules.specs.Lists.{All}
use Rattle.rules.specs.Pattern.{Pattern, event, pair, within, size}
use Rattle.detector.specs.Memory.{Memory}
use Rattle.detector.specs.Possible.{p}
use Rattle.detector.specs.Form.{Form}
use Rattle.body.specs.declared.Entry.{Entry}
use Rattle.body.specs.declared.Entry.TheVariants.{Letter, Pair, Within, Wrong}
use Rattle.body.specs.Entry.{entries_by}
use Rattle.body.specs.Postfix.{postfix}
use Rattle.body.specs.Check.{scan}
use Rattle.body.specs.inner.Machine.{step, run, eval}
use Rattle.body.proofs.Entries.{entries_fit}
use Rattle.body.proofs.Bodies.{length_by}
use Rattle.body.proofs.Trees.{size_pos, length_postfix, proper_fits, fits_proper, scan_tree}
use Rattle.cell.specs.Cell.{cell_words, possible}
use Rattle.cell.specs.Form.{cell_fits}
use Rattle.watcher.specs.State.{header, count_of, next_of, entry_words, cells, state_of, room_of, InForm}
use Rattle.watcher.specs.inner.Walk.{entry_in, judge_cell, on_ahead, judge_m, is_none, judged, formed, end_by, extent}
use Rattle.watcher.specs.Claim.{FormedExactly, ExtentExactly}
use Rattle.watcher.proofs.Entries.{Fitting, words_entries, read_fits, run_tree}
use Rattle.watcher.proofs.States.{state_parts, length_state, count_word, next_word, entries_read, cells_from, state_long}
use Rattle.watcher.proofs.Cells.{left, right, own, cells_ahead, form_left, form_right, length_own, possible_p}
use Rattle.watcher.proofs.Fits.{Found, own_found, own_fits}

-- what the judge of one cell says
record Taken (τ : ℕ) (op : Op) (y : ℕ) (ahead rest : List ℕ) : Type 0 where
  cell : List ℕ
  whole : length cell ≡ cell_words op y
  fits : cell_fits τ op cell ≡ true
  same : ahead ≡ cell ++ rest

cell_sound : (τ : ℕ) (op : Op) (y : ℕ) (ahead rest : List ℕ) → judge_cell τ op y ahead ≡ Some rest → Taken τ op y ahead rest
unfolding judge_cell
cell_sound τ op y ahead rest q = go (leb n (length ahead)) (cell_fits τ op (take n ahead)) refl refl q
  where
    n : ℕ
    n = cell_words op y

    go : (t u : Bool) → leb n (length ahead) ≡ t → cell_fits τ op (take n ahead) ≡ u
        → cond t (cond u (Some (drop n ahead)) None) None ≡ Some rest → Taken τ op y ahead rest
    go true true a b q =
        let e : drop n ahead ≡ rest = cc in
        record {
          cell = take n ahead;
          whole = length-take-le n ahead (leb-true n (length ahead) a);
          fits = b;
          same = sym (take-append-drop n ahead) ∙ ap (λ (r : List ℕ). take n ahead ++ r) e;
        }
    go true false a b q = impossible cc
    go false u a b q = impossible cc

cell_complete : (τ : ℕ) (op : Op) (y : ℕ) (c rest : List ℕ) → length c ≡ cell_words op y → cell_fits τ op c ≡ true
    → judge_cell τ op y (c ++ rest) ≡ Some rest
unfolding judge_cell
cell_complete τ op y c rest l f =
    let k : cell_words op y ≤ length (c ++ rest) = omega (arith, length-append c rest) in
    rw (le-leb (cell_words op y) (length (c ++ rest)) k, take_at c rest (cell_words op y) l, drop_at c rest (cell_words op y) l, f)

-- p is on the stack, whatever stands ahead
judge_p : (τ : ℕ) (e : Pattern) (g : Option (List ℕ)) → (eval (judge_m τ) e g).0 ≡ p e
unfolding eval p
judge_p τ (event n) g = refl
judge_p τ (pair op x y) g =
    ap₂ (possible op) (judge_p τ x g) (judge_p τ y (eval (judge_m τ) x g).1) ∙ possible_p op x y
judge_p τ (within x n) g = judge_p τ x g

-- once refused, always refused
judge_none : (τ : ℕ) (e : Pattern) → (eval (judge_m τ) e None).1 ≡ None
unfolding eval
judge_none τ (event n) = refl
judge_none τ (pair op x y) = rw (judge_none τ x, judge_none τ y)
judge_none τ (within x n) = judge_none τ x

step_none : (τ : ℕ) (s : Entry) (st : List ℕ) → (step (judge_m τ) s st None).1 ≡ None
unfolding step
step_none τ (Letter n) st = refl
step_none τ (Pair op) [] = refl
step_none τ (Pair op) (y ∷ []) = refl
step_none τ (Pair op) (y ∷ x ∷ st) = refl
step_none τ (Within n) [] = refl
step_none τ (Within n) (x ∷ st) = refl
step_none τ Wrong st = refl

pub run_none : (τ : ℕ) (ss : List Entry) (st : List ℕ) → (run (judge_m τ) ss st None).1 ≡ None
unfolding run
run_none τ [] st = refl
run_none τ (s ∷ ss) st =
    ap (λ (g : Option (List ℕ)). (run (judge_m τ) ss (step (judge_m τ) s st None).0 g).1) (step_none τ s st)
    ∙ run_none τ ss (step (judge_m τ) s st None).0

not_some : {A : Type 0} (l : List ℕ) → None ≡ Some l → A
not_some l q = impossible cc

-- an operator's words: its operands' and its own
pair_found : (τ : ℕ) (op : Op) (x y : Pattern) (ahead rest : List ℕ) (g h : Option (List ℕ))
    → (eval (judge_m τ) x (Some ahead)).1 ≡ g → (eval (judge_m τ) y g).1 ≡ h → on_ahead h (judge_cell τ op (p y)) ≡ Some rest
    → ((a : List ℕ) → (eval (judge_m τ) x (Some ahead)).1 ≡ Some a → Found τ x ahead a)
    → ((a b : List ℕ) → (eval (judge_m τ) y (Some a)).1 ≡ Some b → Found τ y a b)
    → Found τ (pair op x y) ahead rest
pair_found τ op x y ahead rest None None d e q f k = not_some rest q
pair_found τ op x y ahead rest None (Some b) d e q f k = not_some b (sym (judge_none τ y) ∙ e)
pair_found τ op x y ahead rest (Some a) None d e q f k = not_some rest q
pair_found τ op x y ahead rest (Some a) (Some b) d e q f k =
    let u = f a d in
    let v = k a b e in
    let c = cell_sound τ op (p y) b rest q in
    let same : ahead ≡ cells x u.memory ++ (cells y v.memory ++ (c.cell ++ rest)) = rw (← c.same, ← v.same) u.same in
    subst (λ (l : List ℕ). Found τ (pair op x y) l rest) (sym same)
    (own_found τ x y u.memory v.memory u.form v.form rest op c.cell c.whole c.fits)

-- what is taken is the words of a memory in form
judge_sound : (τ : ℕ) (e : Pattern) (ahead rest : List ℕ) → (eval (judge_m τ) e (Some ahead)).1 ≡ Some rest → Found τ e ahead rest
unfolding eval cells
judge_sound τ (event n) ahead rest q = record { memory = tt; form = tt; same = cc }
judge_sound τ (pair op x y) ahead rest q =
    let g : Option (List ℕ) = (eval (judge_m τ) x (Some ahead)).1 in
    pair_found τ op x y ahead rest g (eval (judge_m τ) y g).1 refl refl (rw (judge_p τ y g) at q)
    (λ a. judge_sound τ x ahead a) (λ a b. judge_sound τ y a b)
judge_sound τ (within x n) ahead rest q =
    let k = judge_sound τ x ahead rest q in record { memory = k.memory; form = k.form; same = k.same }

-- and the words of a memory in form are taken
judge_complete : (τ : ℕ) (e : Pattern) (m : Memory e) (rest : List ℕ) → Form τ e m → (eval (judge_m τ) e (Some (cells e m ++ rest))).1 ≡ Some rest
unfolding eval cells
judge_complete τ (event n) m rest f = refl
judge_complete τ (pair op x y) m rest f =
    rw (
      cells_ahead op x y m rest,
      judge_complete τ x (left op x y m) (cells y (right op x y m) ++ (own op x y m ++ rest)) (form_left τ op x y m f),
      judge_complete τ y (right op x y m) (own op x y m ++ rest) (form_right τ op x y m f),
      judge_p τ y (Some (cells y (right op x y m) ++ (own op x y m ++ rest))),
    )
    (cell_complete τ op (p y) (own op x y m) rest (length_own op x y m) (own_fits τ op x y m f))
judge_complete τ (within x n) m rest f = judge_complete τ x m rest f

-- what the tests of the form say, one after the other
pub record Judged (s : List ℕ) : Type 0 where
  pub least : 1 ≤ count_of s
  pub most : count_of s ≤ most_entries
  pub long : header + count_of s ≤ length s
  pub sound : scan (entries_by (entry_in s) 0 (count_of s)) 0 0 ≡ None
  pub early : next_of s ≤ ticks
  pub taken : is_some (judged s) ≡ true

none_of : (o : Option ℕ) → is_none o ≡ true → o ≡ None
none_of None q = refl
none_of (Some i) q = impossible cc

pub formed_judged : (s : List ℕ) → formed s ≡ true → Judged s
unfolding formed
formed_judged s q =
    let a = both_true (leb 1 (count_of s)) _ q in
    let b = both_true (leb (count_of s) most_entries) _ a.1 in
    let c = both_true (leb (header + count_of s) (length s)) _ b.1 in
    let d = both_true (is_none (scan (entries_by (entry_in s) 0 (count_of s)) 0 0)) _ c.1 in
    let e = both_true (leb (next_of s) ticks) _ d.1 in
    record {
      least = leb-true 1 (count_of s) a.0;
      most = leb-true (count_of s) most_entries b.0;
      long = leb-true (header + count_of s) (length s) c.0;
      sound = none_of (scan (entries_by (entry_in s) 0 (count_of s)) 0 0) d.0;
      early = leb-true (next_of s) ticks e.0;
      taken = e.1;
    }

judged_formed : (s : List ℕ) → Judged s → formed s ≡ true
unfolding formed
judged_formed s j =
    rw (
      le-leb 1 (count_of s) j.least,
      le-leb (count_of s) most_entries j.most,
      le-leb (header + count_of s) (length s) j.long,
      j.sound,
      le-leb (next_of s) ticks j.early,
    ) j.taken

-- a judge over the entries of a tree
judge_run : (τ : ℕ) (es : List Entry) (e : Pattern) (ahead : Option (List ℕ)) → es ≡ postfix e
    → (run (judge_m τ) es [] ahead).1 ≡ (eval (judge_m τ) e ahead).1
judge_run τ es e ahead q =
    ap (λ (l : List Entry). (run (judge_m τ) l [] ahead).1) q
    ∙ ap (λ (r : List ℕ × Option (List ℕ)). r.1) (run_tree (judge_m τ) e ahead)

some_of : (o : Option (List ℕ)) → is_some o ≡ true → (l : List ℕ) × (o ≡ Some l)
some_of None q = impossible cc
some_of (Some l) q = (l, refl)

two_words : (s : List ℕ) → 2 ≤ length s → s ≡ count_of s ∷ next_of s ∷ drop 2 s
two_words [] h = absurd (omega arith)
two_words (a ∷ []) h = absurd (omega arith)
two_words (a ∷ b ∷ l) h = refl

join : (s : List ℕ) (n τ : ℕ) (es : List Entry) (ahead : List ℕ) (e : Pattern) (m : Memory e) (beyond : List ℕ)
    → s ≡ n ∷ τ ∷ (entry_words es ++ ahead) → n ≡ size e → es ≡ postfix e → ahead ≡ cells e m ++ beyond → s ≡ state_of e τ m ++ beyond
join s n τ es ahead e m beyond q count tree same =
    q ∙ rw (count, tree, same) (sym (state_parts e τ m beyond))

judged_in_form : (s : List ℕ) → Judged s → InForm s
unfolding judged
judged_in_form s j =
    let n : ℕ = count_of s in
    let τ : ℕ = next_of s in
    let bound : ℕ = 256 ^ argument_bytes in
    let es : List Entry = entries_by (entry_in s) 0 n in
    let tree : (e : Pattern) × (es ≡ postfix e) = scan_tree es j.sound in
    let e : Pattern = tree.0 in
    let proper = fits_proper (Unit {0}) bound e (rw tree.1 at (entries_fit (Unit {0}) bound (entry_in s) (read_fits s) 0 n)) in
    let fitting : All Fitting es = rw tree.1 (proper_fits bound e proper) in
    let words : drop 2 s ≡ entry_words es ++ drop (2 + n) s = words_entries n s 0 j.long fitting in
    let count : n ≡ size e = sym (length_by (entry_in s) 0 n) ∙ ap length tree.1 ∙ length_postfix e in
    let ahead : Option (List ℕ) = Some (drop (2 + n) s) in
    let end = some_of (run (judge_m τ) es [] ahead).1 j.taken in
    let found = judge_sound τ e (drop (2 + n) s) end.0 (sym (judge_run τ es e ahead tree.1) ∙ end.1) in
    record {
      pattern = e;
      next = τ;
      memory = found.memory;
      beyond = end.0;
      bodied = record { proper = proper; few = omega (arith, j.most) };
      early = j.early;
      form = found.form;
      same =
          join s n τ es (drop (2 + n) s) e found.memory end.0
          (two_words s (omega (arith, j.long)) ∙ ap (λ (l : List ℕ). n ∷ τ ∷ l) words) count tree.1 found.same;
    }

-- the words beyond the cells of a state in form
pub in_form_cells : (s : List ℕ) (f : InForm s) → judged s ≡ Some f.beyond
unfolding judged
in_form_cells s f =
    let e : Pattern = f.pattern in
    judge_run (next_of s) (entries_by (entry_in s) 0 (count_of s)) e (Some (drop (header + count_of s) s)) (entries_read f)
    ∙ ap₂ (λ (τ : ℕ) (l : List ℕ). (eval (judge_m τ) e (Some l)).1) (next_word f) (cells_from f)
    ∙ judge_complete f.next e f.memory f.beyond f.form

in_form_judged : (s : List ℕ) → InForm s → Judged s
in_form_judged s f =
    let count = count_word f in
    record {
      least = omega (arith, size_pos f.pattern);
      most = omega (arith, f.bodied.few);
      long = state_long f;
      sound = rw (entries_read f) (scan_whole f.pattern);
      early = omega (arith, next_word f, f.early);
      taken = rw (in_form_cells s f);
    }

-- the words of a state in form: all but those beyond
pub in_form_extent : (s : List ℕ) (f : InForm s) → extent s ≡ Some (length s - length f.beyond)
unfolding extent
in_form_extent s f = rw (judged_formed s (in_form_judged s f), in_form_cells s f)

-- the form judged is the form stated
pub formed_exactly : FormedExactly
formed_exactly s = ((λ q. judged_in_form s (formed_judged s q)), (λ f. judged_formed s (in_form_judged s f)))

-- and a state is in form exactly where it has words
pub extent_formed : (s : List ℕ) {n : ℕ} → extent s ≡ Some n → formed s ≡ true
unfolding extent
extent_formed s {n} h = go (formed s) refl h
  where
    go : (t : Bool) → formed s ≡ t → cond t (end_by (length s) (judged s)) None ≡ Some n → formed s ≡ true
    go true q k = q
    go false q k = impossible cc

pub extent_broken : (s : List ℕ) → extent s ≡ None → formed s ≡ false
extent_broken s h = go (formed s) refl
  where
    go : (t : Bool) → formed s ≡ t → formed s ≡ false
    go true q = let e = in_form_extent s (judged_in_form s (formed_judged s q)) in impossible cc
    go false q = q

pub extent_exactly : ExtentExactly
extent_exactly s = ((λ h. (formed_exactly s).0 (extent_formed s h.1), λ f. (room_of f.pattern, room f)), room)
  where
    room : (f : InForm s) → extent s ≡ Some (room_of f.pattern)
    room f =
        let own : List ℕ = state_of f.pattern f.next f.memory in
        let e : length s - length f.beyond ≡ room_of f.pattern = omega (arith, ap length f.same, length-append own f.beyond, length_state f.pattern f.next f.memory) in
        in_form_extent s f ∙ ap Some e
