-- The walk of a tick with its stack: what each kind of entry does to the stack keeps it, and makes the room that is asked before.
-- Assumes nothing.
use Prim.Native.Nat.{ℕ, ◌+◌, ◌*◌, ◌≤◌, ◌<◌}
use mathlib.Core.Path.{◌≡◌, refl, sym, ap, ◌∙◌}
use mathlib.Core.List.{List, [], ◌∷◌, ◌++◌}
use native.Mathlib.Omega.{arith}
use lib.ListN.{length, get_or, take, drop, set, length-append, length-drop}
use lib.Seq.{drop-drop, length-take-le}
use borrow.Rule.Slice.PartMut.{put_mid}
use Rattle.rules.specs.declared.Op.{Op}
use Rattle.rules.specs.Limits.{ticks, most_entries}
use Rattle.body.specs.declared.Entry.TheVariants.{Letter, Pair, Within, Wrong}
use Rattle.cell.specs.Cell.{cell_words, cell_answer, cell_after, starts_after}
use Rattle.cell.proofs.WordLaws.{length_after, length_starts_after}
use Rattle.watcher.specs.State.{header, count_of}
use Rattle.watcher.specs.inner.Walk.{Value, entry_in, letter_answer, last_answer}
use Rattle.watcher.specs.inner.Step.{over, starts_on, restricted, PairReady, PairDone, StepsReady, StepsDone}
use Rattle.watcher.proofs.States.{count_word, state_long}
use Rattle.watcher.proofs.Judges.{formed_exactly}
use Rattle.watcher.proofs.walk.Segments.{length_over}
use Rattle.watcher.proofs.walk.Pairing.{starts_after_own}
use Rattle.watcher.proofs.walk.Walking.{Walking, walking_start, walking_low, walking_few, walking_end, walking_letter, walking_two, walking_one}
use Rattle.watcher.proofs.walk.Walking.{walking_wrong, walking_within, walking_cell, walking_pair}

-- before entry i of the old words: s are the words now, the next cell begins at a place, and st is the stack
pub record Stepping (deep many t w : ℕ) (old s : List ℕ) (st : List Value) (at i : ℕ) : Type 0 where
  pub long : length s ≡ length old
  pub enough : get_or old 0 0 < 2 * deep
  pub holds : get_or old 0 0 ≤ many + 1
  pub walking : Walking t w old s i at st

-- the words of the entries are there
pub ready_long : {s : List ℕ} {t : ℕ} → StepsReady s t → header + count_of s ≤ length s
ready_long {s} r = state_long ((formed_exactly s).0 r.form)

-- and they are at most 63
pub few_entries : {s : List ℕ} {t : ℕ} → StepsReady s t → count_of s ≤ most_entries
few_entries {s} r = let f = (formed_exactly s).0 r.form in omega (arith, count_word f, f.bodied.few)

pub stepping_start : (deep many t w : ℕ) (s : List ℕ) → StepsReady s t → count_of s < 2 * deep → count_of s ≤ many + 1
    → Stepping deep many t w s s [] (header + count_of s) 0
stepping_start deep many t w s r k l = record { long = refl; enough = k; holds = l; walking = walking_start t w s r.form r.late }

module _ {deep many t w : ℕ} {old s : List ℕ} {st : List Value} {at i : ℕ} (x : Stepping deep many t w old s st at i) where
  pub stepping_long : 2 + get_or old 0 0 ≤ length s
  stepping_long = omega (arith, x.long, state_long x.walking.form)

  -- the end: one answer is left
  module _ (h : i ≡ get_or old 0 0) where
    pub stepping_one_left : length st ≡ 1
    stepping_one_left = (walking_end x.walking (omega arith)).0

    pub stepping_end : StepsDone old t w (set s 1 (t + 1)) (last_answer st)
    stepping_end = let e = walking_end x.walking (omega arith) in record { answer = e.1; words = e.2 }

  module _ (h : i < get_or old 0 0) where
    pub stepping_wrong : entry_in s i ≡ Wrong → ⊥
    stepping_wrong q = walking_wrong x.walking h q

    -- a letter
    module _ (n : ℕ) (q : entry_in s i ≡ Letter n) where
      pub stepping_room : length st < deep
      stepping_room = omega (arith, x.enough, walking_low (walking_letter x.walking h n q).1 (omega arith))

      pub stepping_letter : Stepping deep many t w old s ((letter_answer t w n, []) ∷ st) at (i + 1)
      stepping_letter = record { long = x.long; enough = x.enough; holds = x.holds; walking = (walking_letter x.walking h n q).1 }

    -- a restriction finds its operand
    pub stepping_one : (n : ℕ) → entry_in s i ≡ Within n → 1 ≤ length st
    stepping_one n q = walking_one x.walking h n q

    -- and an operator its two
    pub stepping_two : (op : Op) → entry_in s i ≡ Pair op → 2 ≤ length st
    stepping_two op q = walking_two x.walking h op q

module _ {deep many t w : ℕ} {old s : List ℕ} {at i : ℕ} where
  pub stepping_within : {st : List Value} → Stepping deep many t w old s st at i → i < get_or old 0 0 → (n : ℕ) → entry_in s i ≡ Within n
      → Stepping deep many t w old s (restricted t n st) at (i + 1)
  stepping_within {st = []} x h n q = let no : 1 ≤ 0 = stepping_one x h n q in absurd (omega arith)
  stepping_within {st = v ∷ st} x h n q = record {
    long = x.long;
    enough = x.enough;
    holds = x.holds;
    walking = (walking_within x.walking h n q).1;
  }

-- an operator on x and y
module _ {deep many t w : ℕ} {old s : List ℕ} {y x : Value} {st : List Value} {at i : ℕ} (z : Stepping deep many t w old s (y ∷ x ∷ st) at i)
    (h : i < get_or old 0 0) (op : Op) (q : entry_in s i ≡ Pair op) where
  abbrev n : ℕ
  n = cell_words op (length y.1)

  abbrev cell : List ℕ
  cell = take n (drop at s)

  abbrev new : List ℕ
  new = cell_after op (t + 1) x.0 y.0 y.1 cell

  fits : at + n ≤ length s
  fits = walking_cell z.walking h op q

  length_new : length new ≡ n
  length_new = length_after op (t + 1) x.0 y.0 y.1 cell (length-take-le n (drop at s) (omega (arith, length-drop at s, fits)))

  written : over at new s ≡ put_mid at n s new
  written =
      ap (λ (z : List ℕ). take at s ++ (new ++ z))
      (ap (λ (k : ℕ). drop (at + k) s) length_new ∙ sym (drop-drop n at s))

  next : Walking t w old (over at new s) (i + 1) (at + n) ((cell_answer op (t + 1) x.0 y.0 cell, starts_after op x.1 y.1 new) ∷ st)
  next = rw written (walking_pair z.walking h op q cell refl)

  pair_ready : t < ticks → PairReady many op s (y ∷ x ∷ st) at t
  unfolding starts_on
  pair_ready k = record {
    range = k;
    cell = fits;
    room =
        omega (
          arith,
          z.holds,
          walking_few next (omega arith),
          ap length (starts_after_own op x.1 y.1 new),
          length-append x.1 (starts_after op [] y.1 new),
          length_starts_after op [] y.1 new length_new,
        );
  }

  pair_stepped : {s' : List ℕ} {st' : List Value} {r : ℕ} → PairDone op t at s (y ∷ x ∷ st) s' st' r → Stepping deep many t w old s' st' r (i + 1)
  pair_stepped g =
      rw (g.place, g.words, g.stack) (record {
        long = length_over at new s (omega (arith, length_new, fits)) ∙ z.long;
        enough = z.enough;
        holds = z.holds;
        walking = next;
      })

module _ {deep many t w : ℕ} {old s : List ℕ} {at i : ℕ} where
  pub stepping_ready : {st : List Value} → Stepping deep many t w old s st at i → i < get_or old 0 0 → (op : Op) → entry_in s i ≡ Pair op
      → t < ticks → PairReady many op s st at t
  stepping_ready {st = []} x h op q k = tt
  stepping_ready {st = y ∷ []} x h op q k = tt
  stepping_ready {st = y ∷ z ∷ st} x h op q k = pair_ready x h op q k

  pub stepping_pair : {st : List Value} → Stepping deep many t w old s st at i → i < get_or old 0 0 → (op : Op) → entry_in s i ≡ Pair op
      → {s' : List ℕ} {st' : List Value} {r : ℕ} → PairDone op t at s st s' st' r → Stepping deep many t w old s' st' r (i + 1)
  stepping_pair {st = []} x h op q g = let no : 2 ≤ 0 = stepping_two x h op q in absurd (omega arith)
  stepping_pair {st = y ∷ []} x h op q g = let no : 2 ≤ 1 = stepping_two x h op q in absurd (omega arith)
  stepping_pair {st = y ∷ z ∷ st} x h op q g = pair_stepped x h op q g
