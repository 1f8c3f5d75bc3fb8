-- Where a walk writes: the words of the entries stay as they were, then come the cells written, then those ahead. Assumes nothing.
use Prim.Native.Nat.{ℕ, ◌+◌, ◌≤◌, ◌<◌}
use mathlib.Core.Path.{◌≡◌, sym, ap, ◌∙◌}
use mathlib.Core.List.{List, [], ◌++◌, append_assoc}
use native.Mathlib.Omega.{arith}
use lib.ListN.{length, get_or, take, drop, set, length-append, take-append-drop}
use lib.Seq.{take_at, drop_at, get_or-take, length-take-le}
use borrow.Rule.Slice.PartMut.{put_mid}
use Rattle.watcher.specs.inner.Walk.{Cells, entry_in, ticked, words_after}

-- s is the old words up to the cells, then those written, up to a place, and then those ahead
pub record Held (old s : List ℕ) (at : ℕ) (g : Cells) : Type 0 where
  pub same : s ≡ take (2 + get_or old 0 0) old ++ (g.0 ++ g.1)
  pub place : at ≡ 2 + get_or old 0 0 + length g.0

module _ (old : List ℕ) (long : 2 + get_or old 0 0 ≤ length old) where
  front : List ℕ
  front = take (2 + get_or old 0 0) old

  length_front : length front ≡ 2 + get_or old 0 0
  unfolding front
  length_front = length-take-le (2 + get_or old 0 0) old long

  -- nothing is written yet
  pub held_start : Held old old (2 + get_or old 0 0) ([], drop (2 + get_or old 0 0) old)
  held_start = record { same = sym (take-append-drop (2 + get_or old 0 0) old); place = omega arith }

  module _ {s : List ℕ} {at : ℕ} {g : Cells} (h : Held old s at g) where
    split : s ≡ (front ++ g.0) ++ g.1
    unfolding front
    split = h.same ∙ sym (append_assoc front g.0 g.1)

    length_seen : length (front ++ g.0) ≡ at
    length_seen = omega (arith, length-append front g.0, length_front, h.place)

    -- the words from the place on
    pub held_ahead : drop at s ≡ g.1
    held_ahead = ap (drop at) split ∙ drop_at (front ++ g.0) g.1 at length_seen

    seen : take at s ≡ front ++ g.0
    seen = ap (take at) split ∙ take_at (front ++ g.0) g.1 at length_seen

    pub held_length : length s ≡ at + length g.1
    held_length = ap length split ∙ omega (arith, length-append (front ++ g.0) g.1, length_seen)

    -- the words up to the cells, and so the entries, are as they were
    pub held_front : take (2 + get_or old 0 0) s ≡ take (2 + get_or old 0 0) old
    unfolding front
    held_front = ap (take (2 + get_or old 0 0)) h.same ∙ take_at front (g.0 ++ g.1) (2 + get_or old 0 0) length_front

    held_word : (j : ℕ) → j < 2 + get_or old 0 0 → get_or s j 0 ≡ get_or old j 0
    held_word j k =
        sym (get_or-take (2 + get_or old 0 0) s j 0 k)
        ∙ ap (λ (l : List ℕ). get_or l j 0) held_front
        ∙ get_or-take (2 + get_or old 0 0) old j 0 k

    pub held_entry : (i : ℕ) → i < get_or old 0 0 → entry_in s i ≡ entry_in old i
    unfolding entry_in
    held_entry i k = rw (held_word (i + 2) (omega arith))

    -- a cell written in place of its words
    pub held_put : (n : ℕ) (c : List ℕ) → length c ≡ n → Held old (put_mid at n s c) (at + n) (g.0 ++ c, drop n g.1)
    unfolding front
    held_put n c l = record {
      same = rw (seen, held_ahead) (simp append_assoc);
      place = omega (arith, length-append g.0 c, h.place);
    }

-- all is written: with the next tick allowed, these are the words after the tick
pub held_end : (old s : List ℕ) (at t w : ℕ) → Held old s at (ticked t w old).1 → set s 1 (t + 1) ≡ words_after t w old
unfolding words_after
held_end old s at t w h = ap (λ (l : List ℕ). set l 1 (t + 1)) h.same
