-- Words and entries: each gives the other back. An entry is read from its own word, and a word is that of the entry read from it,
-- unless that breaks a rule by itself. Assumes nothing.
use Prim.Native.Nat.{ℕ, zero, suc, ◌+◌, ◌-◌, ◌*◌, ◌/◌, ◌%◌, ◌<◌, ◌≤◌, ◌^◌}
use mathlib.Core.Path.{◌≡◌, refl, sym, ap, ap₂, ◌∙◌}
use mathlib.Core.Bool.{Bool, true, false, cond}
use mathlib.Core.List.{List, [], ◌∷◌, ◌++◌, append-nil}
use native.Mathlib.Nat.{add-zero}
use native.Mathlib.Omega.{arith}
use lib.Dec.{eqb, ltb}
use lib.ListN.{length, get_or, drop}
use lib.Seq.{get_or-drop, drop-drop, drop-cons}
use borrow.Author.Tests.{lt-ltb, eqb-true, eqb-false, ltb-true}
use Rattle.body.proofs.Entries.{number_of_op}
use Rattle.rules.specs.declared.Op.TheVariants.{Either, Both, Without, Chain}
use Rattle.rules.specs.Limits.{letters, argument_bytes}
use Rattle.rules.specs.Lists.{All}
use Rattle.rules.specs.Pattern.{Pattern, size, Proper}
use Rattle.body.specs.declared.Entry.{Entry}
use Rattle.body.specs.declared.Entry.TheVariants.{Letter, Pair, Within, Wrong}
use Rattle.body.specs.Entry.{op_of, entry_of, entries_by}
use Rattle.body.specs.Postfix.{postfix}
use Rattle.body.specs.inner.Machine.{Machine, step, run, eval}
use Rattle.body.proofs.Entries.{Fits, entry_fits}
use Rattle.body.proofs.Trees.{length_postfix, proper_fits}
use Rattle.body.proofs.Machines.{run_postfix}
use Rattle.body.proofs.Walk.{run_turn}
use Rattle.watcher.specs.State.{count_of, word_of, entry_words}
use Rattle.watcher.specs.inner.Walk.{entry_in}

-- an entry that fits, and breaks no rule by itself
abbrev pub Fitting : Entry → Type 0
Fitting = Fits ⊥ (256 ^ argument_bytes)

-- an op and an argument, read from their word
split : (op n : ℕ) → op < 256 → ((op + 256 * n) % 256 ≡ op) × ((op + 256 * n) / 256 ≡ n)
split op n h = (omega arith, omega arith)

-- an entry is read from its word
entry_word : (s : Entry) → Fitting s → entry_of argument_bytes (word_of s % 256) (word_of s / 256) ≡ s
unfolding entry_of
entry_word (Letter n) h = rw ((split 0 n (omega arith)).0, (split 0 n (omega arith)).1, lt-ltb n letters h)
entry_word (Pair Either) h = refl
entry_word (Pair Both) h = refl
entry_word (Pair Without) h = refl
entry_word (Pair Chain) h = refl
entry_word (Within n) h = rw ((split 5 n (omega arith)).0, (split 5 n (omega arith)).1, lt-ltb n (256 ^ argument_bytes) h)
entry_word Wrong h = absurd h

-- a word is that of the entry read from it
word_split : (op argument : ℕ) → Fitting (entry_of argument_bytes op argument) → word_of (entry_of argument_bytes op argument) ≡ op + 256 * argument
unfolding entry_of
word_split op n f = go (eqb op 0) (ltb n letters) (ltb op 5) (eqb n 0) (eqb op 5) (ltb n (256 ^ argument_bytes)) refl refl refl refl f
  where
    go : (t₁ t₂ t₃ t₄ t₅ t₆ : Bool) → eqb op 0 ≡ t₁ → ltb op 5 ≡ t₃ → eqb n 0 ≡ t₄ → eqb op 5 ≡ t₅
        → Fitting (cond t₁ (cond t₂ (Letter n) Wrong) (cond t₃ (cond t₄ (Pair (op_of op)) Wrong) (cond t₅ (cond t₆ (Within n) Wrong) Wrong)))
        → word_of (cond t₁ (cond t₂ (Letter n) Wrong) (cond t₃ (cond t₄ (Pair (op_of op)) Wrong) (cond t₅ (cond t₆ (Within n) Wrong) Wrong)))
        ≡ op + 256 * n
    go true true t₃ t₄ t₅ t₆ p q r s f = omega (arith, eqb-true op 0 p)
    go true false t₃ t₄ t₅ t₆ p q r s f = absurd f
    go false t₂ true true t₅ t₆ p q r s f = omega (arith, number_of_op op (eqb-false op 0 p) (ltb-true op 5 q), eqb-true n 0 r)
    go false t₂ true false t₅ t₆ p q r s f = absurd f
    go false t₂ false t₄ true true p q r s f = omega (arith, eqb-true op 5 s)
    go false t₂ false t₄ true false p q r s f = absurd f
    go false t₂ false t₄ false t₆ p q r s f = absurd f

word_entry : (w : ℕ) → Fitting (entry_of argument_bytes (w % 256) (w / 256)) → word_of (entry_of argument_bytes (w % 256) (w / 256)) ≡ w
word_entry w f = word_split (w % 256) (w / 256) f ∙ omega arith

-- the words after the first of those ahead
drop_next : (s : List ℕ) (i : ℕ) → drop (i + 1 + 2) s ≡ drop 1 (drop (i + 2) s)
drop_next s i = let e : i + 1 + 2 ≡ i + 2 + 1 = omega arith in rw e (sym (drop-drop 1 (i + 2) s))

first_word : (s : List ℕ) (i : ℕ) → get_or s (i + 2) 0 ≡ get_or (drop (i + 2) s) 0 0
first_word s i = sym (rw add-zero at (get_or-drop (i + 2) s 0 0))

-- entries are read from their words
pub entries_words : (ss : List Entry) (s : List ℕ) (i : ℕ) (rest : List ℕ) → drop (i + 2) s ≡ entry_words ss ++ rest → All Fitting ss
    → entries_by (entry_in s) i (length ss) ≡ ss
unfolding entries_by entry_in entry_words
entries_words [] s i rest p h = refl
entries_words (e ∷ ss) s i rest p h =
    let q : get_or s (i + 2) 0 ≡ word_of e = first_word s i ∙ ap count_of p in
    ap₂ (λ (t : Entry) (ts : List Entry). t ∷ ts)
    (rw q (entry_word e h.0))
    (entries_words ss s (i + 1) rest (drop_next s i ∙ ap (drop 1) p) h.1)

-- words are those of the entries that are read from them
pub words_entries : (n : ℕ) (s : List ℕ) (i : ℕ) → i + 2 + n ≤ length s → All Fitting (entries_by (entry_in s) i n)
    → drop (i + 2) s ≡ entry_words (entries_by (entry_in s) i n) ++ drop (i + 2 + n) s
unfolding entries_by entry_in entry_words
words_entries zero s i l h = rw add-zero
words_entries (suc n) s i l h =
    let k : suc (i + 2) ≡ i + 1 + 2 = omega arith in
    let q : i + 1 + 2 + n ≡ i + 2 + suc n = omega arith in
    drop-cons s (i + 2) 0 (omega arith)
    ∙ ap₂ (λ (a : ℕ) (r : List ℕ). a ∷ r)
    (sym (word_entry (get_or s (i + 2) 0) h.0))
    (rw (k, ← q) (words_entries n s (i + 1) (omega arith) h.1))

-- the entries of a state that begins with those of a pattern
pub entries_in : (e : Pattern) → Proper (256 ^ argument_bytes) e → (s : List ℕ) (rest : List ℕ) → drop 2 s ≡ entry_words (postfix e) ++ rest
    → entries_by (entry_in s) 0 (size e) ≡ postfix e
entries_in e h s rest p =
    rw (sym (length_postfix e)) (entries_words (postfix e) s 0 rest p (proper_fits (256 ^ argument_bytes) e h))

-- what is read fits, or breaks a rule by itself
pub read_fits : (s : List ℕ) (i : ℕ) → Fits (Unit {0}) (256 ^ argument_bytes) (entry_in s i)
unfolding entry_in
read_fits s i = entry_fits argument_bytes (get_or s (i + 2) 0 % 256) (get_or s (i + 2) 0 / 256)

pub length_words : (ss : List Entry) → length (entry_words ss) ≡ length ss
unfolding entry_words
length_words [] = refl
length_words (e ∷ ss) = ap suc (length_words ss)

-- a machine over the entries of one tree
pub run_tree : (M : Machine) (e : Pattern) (g : M.G) → run M (postfix e) [] g ≡ ((eval M e g).0 ∷ [], (eval M e g).1)
unfolding run
run_tree M e g = rw (append-nil (postfix e)) at (run_postfix M e [] [] g)

-- a machine's turn, where its entry and its step are known
pub run_step : (M : Machine) (f : ℕ → Entry) (n i : ℕ) (st st' : List M.X) (g g' : M.G) (e : Entry)
    → i < n → f i ≡ e → step M e st g ≡ (st', g')
    → run M (entries_by f (i + 1) (n - (i + 1))) st' g' ≡ run M (entries_by f i (n - i)) st g
run_step M f n i st st' g g' e h q d =
    let z : step M (f i) st g ≡ (st', g') = ap (λ (s : Entry). step M s st g) q ∙ d in
    ap (λ (r : List M.X × M.G). run M (entries_by f (i + 1) (n - (i + 1))) r.0 r.1) (sym z) ∙ sym (run_turn M f n i st g h)
