-- Bytes taken one after the other: where a line ends, bytes that are held, a line that is taken, and how many bytes are used. Assumes nothing.
use Prim.Native.Nat.{ℕ, zero, suc, ◌+◌, ◌-◌, ◌<◌, ◌≤◌}
use Rattle.std.specs.Prelude.{◌==◌, Some, None, nat_lt, unwrap_or}
use Rattle.std.specs.List.{position_or_len, position}
use mathlib.Core.Path.{◌≡◌, refl, ap, ◌∙◌}
use mathlib.Core.Bool.{Bool, true, false, cond, not}
use mathlib.Core.List.{List, [], ◌∷◌, ◌++◌, append_assoc, append-nil}
use native.Mathlib.Omega.{arith}
use lib.Dec.{eqb}
use lib.ListN.{length, take, drop, length-take, length-drop}
use lib.Seq.{take_all}
use borrow.Author.Tests.{eqb-true, eqb-false}
use Rattle.line.specs.Lines.{most_written}
use Rattle.watching.specs.declared.Run.{Run}
use Rattle.watching.specs.Answer.{LineTaken}
use Rattle.watching.specs.Chunk.{most_held, hold, TakesBytes}
use Rattle.watching.specs.Chunk.TakesBytes.{all, full, byte, line}
use Rattle.watching.specs.inner.Progress.{line_length, Unended}

-- ---- where a line ends

found_or_not : (t : Bool) (a b : ℕ) → a ≡ b → cond (not t) (1 + a) 0 ≡ cond t 0 (suc b)
found_or_not true a b h = refl
found_or_not false a b h = omega (arith, h)

-- the place of the first line feed, or the length where there is none
pub feed_place : (input : List ℕ) → position_or_len (λ c. c == 10) input ≡ line_length input
unfolding line_length
feed_place [] = refl
feed_place (c ∷ input) = found_or_not (c == 10) _ _ (feed_place input)

within : (t : Bool) {n m : ℕ} → n ≤ m → cond t 0 (suc n) ≤ suc m
within true h = omega arith
within false h = omega arith

-- no line is longer than the input
line_le : (input : List ℕ) → line_length input ≤ length input
unfolding line_length
line_le [] = omega arith
line_le (c ∷ input) = within (eqb c 10) (line_le input)

known_place : (t : Bool) (n m : ℕ) → nat_lt n m ≡ t → n ≤ m → unwrap_or (cond t (Some n) None) m ≡ n
known_place true n m e h = refl
known_place false n m e h = grind (arith, e)

pub feed_found : (input : List ℕ) → unwrap_or (position (λ c. c == 10) input) (length input) ≡ line_length input
feed_found input =
    let place = feed_place input in
    known_place _ (position_or_len (λ c. c == 10) input) (length input) refl (omega (arith, place, line_le input)) ∙ place

pub line_inside : (input : List ℕ) (from : ℕ) → from ≤ length input → from + line_length (drop from input) ≤ length input
line_inside input from h = omega (arith, line_le (drop from input), length-drop from input)

-- ---- bytes held

-- a list that is cut, and cut again with what follows
take_cut : (n : ℕ) (a b : List ℕ) → take n (take n a ++ b) ≡ take n (a ++ b)
take_cut zero a b = refl
take_cut (suc n) [] b = refl
take_cut (suc n) (c ∷ a) b = ap (λ (l : List ℕ). c ∷ l) (take_cut n a b)

hold_more : (h : List ℕ) (c : ℕ) (l : List ℕ) → take most_held (hold h c ++ l) ≡ take most_held (h ++ (c ∷ l))
hold_more h c l = take_cut most_held (h ++ (c ∷ [])) l ∙ rw (append_assoc h (c ∷ []) l)

pub hold_few : (h : List ℕ) (c : ℕ) → length (hold h c) ≤ most_held
hold_few h c = omega (arith, length-take most_held (h ++ (c ∷ [])))

-- without room nothing is taken
pub stops : {room : ℕ} {run : Run} {h s : List ℕ} → room < most_written → (l : List ℕ) → TakesBytes room run h s l run h s [] l
stops p [] = all
stops p (c ∷ l) = full p

module _ {room : ℕ} (enough : most_written ≤ room) where
  -- bytes in which no line ends are held
  pub held_all : {run : Run} {s : List ℕ} (h l : List ℕ) → length h ≤ most_held → Unended l → TakesBytes room run h s l run (take most_held (h ++ l)) s [] []
  unfolding line_length
  held_all {run} {s} h [] f u = rw (append-nil h, take_all most_held h f) all
  held_all {run} {s} h (c ∷ l) f u = go (eqb c 10) refl u (held_all (hold h c) l (hold_few h c))
    where
      go : (b : Bool) → eqb c 10 ≡ b → cond b 0 (suc (line_length l)) ≡ suc (length l)
          → (Unended l → TakesBytes room run (hold h c) s l run (take most_held (hold h c ++ l)) s [] [])
          → TakesBytes room run h s (c ∷ l) run (take most_held (h ++ (c ∷ l))) s [] []
      go true e u k = absurd (omega arith)
      go false e u k = rw (← hold_more h c l) (byte enough (eqb-false c 10 e) (k (omega arith)))

  -- a line that ends is taken, and the rest follows
  pub line_leads : {run run₁ run' : Run} {s s₁ s' h' bytes rest left : List ℕ} (h l : List ℕ) → length h ≤ most_held → line_length l < length l
      → LineTaken run (take most_held (h ++ take (line_length l) l)) s s₁ run₁ bytes
      → TakesBytes (room - length bytes) run₁ [] s₁ (drop (suc (line_length l)) l) run' h' s' rest left → TakesBytes room run h s l run' h' s' (bytes ++ rest) left
  unfolding line_length
  line_leads h [] f k t b = absurd (omega arith)
  line_leads {run} {run₁} {run'} {s} {s₁} {s'} {h'} {bytes} {rest} {left} h (c ∷ l) f k t b =
      go (eqb c 10) refl k t b (line_leads (hold h c) l (hold_few h c))
    where
      go : (b : Bool) → eqb c 10 ≡ b → cond b 0 (suc (line_length l)) < suc (length l)
          → LineTaken run (take most_held (h ++ take (cond b 0 (suc (line_length l))) (c ∷ l))) s s₁ run₁ bytes
          → TakesBytes (room - length bytes) run₁ [] s₁ (drop (suc (cond b 0 (suc (line_length l)))) (c ∷ l)) run' h' s' rest left
          → (line_length l < length l → LineTaken run (take most_held (hold h c ++ take (line_length l) l)) s s₁ run₁ bytes
          → TakesBytes (room - length bytes) run₁ [] s₁ (drop (suc (line_length l)) l) run' h' s' rest left
          → TakesBytes room run (hold h c) s l run' h' s' (bytes ++ rest) left)
          → TakesBytes room run h s (c ∷ l) run' h' s' (bytes ++ rest) left
      go true e k t b i = rw (eqb-true c 10 e) (line enough (rw (append-nil h, take_all most_held h f) at t) b)
      go false e k t b i = byte enough (eqb-false c 10 e) (i (omega arith) (rw (hold_more h c (take (line_length l) l)) t) b)

-- ---- bytes are used

pub bytes_left : {room : ℕ} {run run' : Run} {h h' s s' input bytes left : List ℕ} → TakesBytes room run h s input run' h' s' bytes left
    → length left ≤ length input
bytes_left all = omega arith
bytes_left (full p) = omega arith
bytes_left (byte p n b) = omega (arith, bytes_left b)
bytes_left (line p t b) = omega (arith, bytes_left b)

-- where a line finds room, a byte at least
pub bytes_some : {room c : ℕ} {run run' : Run} {h h' s s' input bytes left : List ℕ} → most_written ≤ room
    → TakesBytes room run h s (c ∷ input) run' h' s' bytes left → length left ≤ length input
bytes_some p (full q) = absurd (omega arith)
bytes_some p (byte q n b) = bytes_left b
bytes_some p (line q t b) = bytes_left b
