-- Pairs gathered elsewhere, put over the kept pairs of a cell word by word. Assumes nothing.
use mathlib.Core.Path.{◌≡◌, refl, sym, ap, ap₂, ◌∙◌}
use mathlib.Core.List.{List, [], ◌∷◌, ◌++◌, append-nil}
use Prim.Native.Nat.{ℕ, zero, suc, ◌+◌, ◌-◌, ◌*◌, ◌/◌, ◌%◌, ◌≤◌, ◌<◌}
use native.Mathlib.Decide.{dec_lt}
use native.Mathlib.Omega.{arith}
use native.Mathlib.Numerals.{add-one}
use lib.ListN.{length, take, drop, get_or, set, drop_of_length-le}
use lib.Seq.{paste, paste-suc, take_all}
use Rattle.rules.specs.Decisions.{pick}
use Rattle.detector.specs.Memory.{Span, none}
use Rattle.detector.specs.Choice.{better, choose, gather}
use Rattle.cell.specs.Words.{kept_words, kept_of}
use Rattle.cell.specs.Cell.{pairs_of}
use Rattle.cell.specs.Pairs.{spans_from}
use Rattle.cell.specs.Calls.{kept_after}
use Rattle.cell.proofs.WordLaws.{length_kept_words}
use Rattle.cell.proofs.Pairs.{drop_two, length_spans}

-- the words of pairs from a place on
words_from : (s : List ℕ) (at n : ℕ) → at + 2 * n ≤ length s → take (2 * n) (drop at s) ≡ kept_words n (spans_from s at n)
unfolding kept_words spans_from
words_from s at zero h = refl
words_from s at (suc n) h =
    let e : 2 * suc n ≡ suc (suc (2 * n)) = omega arith in
    ap₂ (λ (k : ℕ) (l : List ℕ). take k l) e (drop_two s at (omega arith))
    ∙ ap (λ (l : List ℕ). get_or s at 0 ∷ get_or s (at + 1) 0 ∷ l) (words_from s (at + 2) n (omega arith))

-- the first words are those of the first pairs
pub words_taken : (s : List ℕ) (n : ℕ) → 2 * n ≤ length s → take (2 * n) s ≡ kept_words (length (spans_from s 0 n)) (spans_from s 0 n)
words_taken s n h = words_from s 0 n (omega arith) ∙ ap (λ (k : ℕ). kept_words k (spans_from s 0 n)) (sym (length_spans s 0 n))

-- zeros after the pairs change no word
kept_word : (n : ℕ) (l : List Span) (i : ℕ) → length l ≤ n → get_or (kept_words (length l) l) i 0 ≡ get_or (kept_words n l) i 0
unfolding kept_words
kept_word zero [] i h = refl
kept_word (suc n) [] zero h = refl
kept_word (suc n) [] (suc zero) h = refl
kept_word (suc n) [] (suc (suc i)) h = kept_word n [] i (omega arith)
kept_word zero (q ∷ l) i h = absurd (omega arith)
kept_word (suc n) (q ∷ l) zero h = refl
kept_word (suc n) (q ∷ l) (suc zero) h = refl
kept_word (suc n) (q ∷ l) (suc (suc i)) h = kept_word n l i (omega arith)

module _ (c : List ℕ) (l : List Span) (two : 2 ≤ length c) (even : length c % 2 ≡ 0) (room : 2 * length l + 2 ≤ length c) where
  -- the cell's kept pairs as they become
  abbrev new : List ℕ
  new = kept_words (length c / 2 - 1) l

  length_new : length new + 2 ≡ length c
  length_new = omega (arith, length_kept_words (length c / 2 - 1) l)

  -- a word more
  pub store_word :
      (c' ws : List ℕ) (i v : ℕ) → i + 2 < length c → ws ≡ kept_words (length l) l → v ≡ get_or ws i 0 → c' ≡ paste c 2 new i
      → set c' (i + 2) v ≡ paste c 2 new (i + 1)
  store_word c' ws i v h k e q =
      let w : v ≡ get_or new i 0 = e ∙ ap (λ (z : List ℕ). get_or z i 0) k ∙ kept_word (length c / 2 - 1) l i (omega arith) in
      let p : i + 2 ≡ 2 + i = omega arith in
      ap (λ (z : List ℕ). set z (i + 2) v) q ∙ ap (set (paste c 2 new i) (i + 2)) w ∙ ap (λ (k : ℕ). set (paste c 2 new i) k (get_or new i 0)) p
      ∙ paste-suc c 2 new i 0 (omega arith) (omega (arith, length_new)) ∙ ap (paste c 2 new) (sym (add-one i))

  pub store_end : (c' : List ℕ) (i : ℕ) → i + 2 ≡ length c → c' ≡ paste c 2 new i → c' ≡ take 2 c ++ new
  store_end c' i h q =
      let m : length c ≤ 2 + i = omega arith in
      let z : drop (2 + i) c ≡ [] = drop_of_length-le c m in
      q ∙ ap (λ (k : List ℕ). take 2 c ++ k ++ drop (2 + i) c) (take_all i new (omega (arith, length_new)))
      ∙ ap (λ (k : List ℕ). take 2 c ++ new ++ k) z ∙ append-nil (take 2 c ++ new)

-- what is stored is what was gathered
pub kept_stored :
    (c ys c' : List ℕ) (old : List Span) → length c ≡ 2 * (1 + length ys) → old ≡ pairs_of c → c' ≡ take 2 c ++ kept_words (length c / 2 - 1) (gather old ys)
    → c' ≡ kept_after ys c
kept_stored c ys c' old h o e =
    let m : length c / 2 - 1 ≡ length ys = omega arith in
    e ∙ ap₂ (λ (z : ℕ) (l : List Span). take 2 c ++ kept_words z (gather l ys)) m o

-- without possible starts there is nothing to keep
pub kept_nothing : (c ys : List ℕ) → length c ≡ 2 * (1 + length ys) → length ys ≡ 0 → c ≡ kept_after ys c
unfolding kept_words
kept_nothing c [] k h = sym (append-nil (take 2 c) ∙ take_all 2 c (omega arith))
kept_nothing c (a ∷ ys) k h = absurd (omega arith)

-- and latest alone is chosen, if it ends before the start
pub latest_chosen : (c : List ℕ) (σ : ℕ) → length c ≡ 2 → pick (dec_lt (get_or c 1 0) σ) (get_or c 0 0) 0 ≡ (choose (pairs_of c) σ).start
unfolding choose better kept_of
latest_chosen (a ∷ b ∷ []) σ n = go (dec_lt b σ)
  where
    sooner : (d : Dec (0 < a)) (e : Dec (a < 0)) (f : Dec (b < 0))
        → let q : Span = record { start = a; end = b } in
        a ≡ (pick d q (pick e none (pick f q none))).start
    sooner (yes d) e f = refl
    sooner (no d) (yes e) f = absurd (omega arith)
    sooner (no d) (no e) (yes f) = absurd (omega arith)
    sooner (no d) (no e) (no f) = omega arith

    go : (d : Dec (b < σ))
        → let q : Span = record { start = a; end = b } in
        pick d a 0 ≡ (pick d (pick (dec_lt 0 a) q (pick (dec_lt a 0) none (pick (dec_lt b 0) q none))) none).start
    go (yes d) = sooner (dec_lt 0 a) (dec_lt a 0) (dec_lt b 0)
    go (no d) = refl
latest_chosen [] σ n = absurd (omega arith)
latest_chosen (a ∷ []) σ n = absurd (omega arith)
latest_chosen (a ∷ b ∷ c ∷ l) σ n = absurd (omega arith)
