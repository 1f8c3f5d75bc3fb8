-- What stands where in a state in form: the number of entries, the next tick, the entries, the cells, and the words beyond.
-- Assumes nothing.
use Prim.Native.Nat.{ℕ, ◌+◌, ◌≤◌}
use mathlib.Core.Path.{◌≡◌, sym, ap, ◌∙◌}
use mathlib.Core.List.{List, ◌∷◌, ◌++◌, append_assoc}
use native.Mathlib.Omega.{arith}
use lib.ListN.{length, take, drop, length-append}
use lib.Seq.{take_at, drop_at, take-add, drop-drop}
use Rattle.rules.specs.Pattern.{Pattern, size}
use Rattle.detector.specs.Memory.{Memory}
use Rattle.body.specs.Entry.{entries_by}
use Rattle.body.specs.Postfix.{postfix}
use Rattle.body.proofs.Trees.{length_postfix}
use Rattle.watcher.specs.State.{header, count_of, next_of, entry_words, cells, state_of, room_of, InForm}
use Rattle.watcher.specs.inner.Walk.{entry_in}
use Rattle.watcher.proofs.Cells.{length_cells}
use Rattle.watcher.proofs.Entries.{entries_in, length_words}

-- the words of a state, each part after the one before
pub state_parts : (e : Pattern) (next : ℕ) (m : Memory e) (beyond : List ℕ)
    → state_of e next m ++ beyond ≡ size e ∷ next ∷ (entry_words (postfix e) ++ (cells e m ++ beyond))
state_parts e next m beyond = ap (λ (l : List ℕ). size e ∷ next ∷ l) (append_assoc (entry_words (postfix e)) (cells e m) beyond)

length_entry_words : (e : Pattern) → length (entry_words (postfix e)) ≡ size e
length_entry_words e = length_words (postfix e) ∙ length_postfix e

-- a state has its room
pub length_state : (e : Pattern) (next : ℕ) (m : Memory e) → length (state_of e next m) ≡ room_of e
length_state e next m = omega (arith, length-append (entry_words (postfix e)) (cells e m), length_entry_words e, length_cells e m)

module _ {s : List ℕ} (f : InForm s) where
  parts : s ≡ size f.pattern ∷ f.next ∷ (entry_words (postfix f.pattern) ++ (cells f.pattern f.memory ++ f.beyond))
  parts = f.same ∙ state_parts f.pattern f.next f.memory f.beyond

  pub count_word : count_of s ≡ size f.pattern
  count_word = ap count_of parts

  pub next_word : next_of s ≡ f.next
  next_word = ap next_of parts

  after_two : drop 2 s ≡ entry_words (postfix f.pattern) ++ (cells f.pattern f.memory ++ f.beyond)
  after_two = ap (drop 2) parts

  pub entries_read : entries_by (entry_in s) 0 (count_of s) ≡ postfix f.pattern
  entries_read = rw count_word (entries_in f.pattern f.bodied.proper s (cells f.pattern f.memory ++ f.beyond) after_two)

  pub cells_from : drop (header + count_of s) s ≡ cells f.pattern f.memory ++ f.beyond
  cells_from =
      sym (drop-drop (count_of s) 2 s)
      ∙ rw (after_two, count_word)
      (drop_at (entry_words (postfix f.pattern)) (cells f.pattern f.memory ++ f.beyond) (size f.pattern)
      (length_entry_words f.pattern))

  pub front_words : take (header + count_of s) s ≡ size f.pattern ∷ f.next ∷ entry_words (postfix f.pattern)
  front_words =
      take-add 2 (count_of s) s
      ∙ rw (after_two, count_word, parts)
      (ap (λ (l : List ℕ). size f.pattern ∷ f.next ∷ l)
      (take_at (entry_words (postfix f.pattern)) (cells f.pattern f.memory ++ f.beyond) (size f.pattern)
      (length_entry_words f.pattern)))

  pub state_long : header + count_of s ≤ length s
  state_long =
      omega (
        arith,
        count_word,
        ap length parts,
        length_entry_words f.pattern,
        length-append (entry_words (postfix f.pattern)) (cells f.pattern f.memory ++ f.beyond),
      )
