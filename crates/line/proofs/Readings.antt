-- The ways that the reader's functions end: one lemma for each answer. Assumes nothing.
use mathlib.Core.Path.{◌≡◌, sym, ap, ◌∙◌, subst}
use Prim.Native.Nat.{ℕ, ◌+◌, ◌-◌, ◌*◌, ◌%◌, ◌^◌, ◌<◌, ◌≤◌, min}
use native.Mathlib.Omega.{arith}
use mathlib.Core.List.{List, [], ◌∷◌}
use lib.ListN.{length, get_or, take, drop, drop_of_length-le}
use borrow.Author.Tests.{eq-eqb, ne_eqb}
use Rattle.std.proofs.lemmas.List.{take_rest}
use Rattle.rules.proofs.Lists.{drop_at}
use Rattle.rules.specs.Limits.{letters, ticks}
use Rattle.text.specs.Characters.{letter_of, digit_of}
use Rattle.line.specs.Lines.{most_line}
use Rattle.line.specs.Answer.{LineOf, IsTick, IsRange}
use Rattle.line.specs.inner.Scan.{front_of, grow, word_from, word_of, with_word, after_front, parse}
use Rattle.line.specs.inner.Number.{IsNumber}
use Rattle.line.proofs.Numbers.{grow_digit, grow_other, front_other, front_zero, front_grow}
use Rattle.line.proofs.Letters.{word_more, word_low, word_other, word_empty, word_done, word_fits, word_sum, bit_shifted}
use Rattle.line.proofs.Parses.{line_parsed}
use Rattle.text.proofs.Bytes.{byte_digit}
use Rattle.std.specs.Prelude.{Option, Some, None}

-- ---- the number

-- the digits before `end` make a number, which is not 0; a value over 2 ^ 32 is given as 2 ^ 32
pub record DigitsRead (s : List ℕ) (end value : ℕ) : Type 0 where
  pub tick : ℕ
  pub some : 0 < tick
  pub capped : value ≡ min tick ticks
  pub inside : end ≤ length s
  pub reads : front_of s ≡ Some (grow tick (drop end s))

module _ (s : List ℕ) where
  pub front_empty : length s ≡ 0 → front_of s ≡ None
  unfolding front_of
  front_empty h = ap front_of (drop_of_length-le s {i = 0} (omega arith))

  module _ (h : 0 < length s) where
    pub front_bad : None ≡ digit_of (get_or s 0 0) → front_of s ≡ None
    front_bad q = ap front_of (drop_at s 0 h) ∙ front_other (get_or s 0 0) (drop 1 s) (sym q)

    module _ (d : ℕ) (q : Some d ≡ digit_of (get_or s 0 0)) where
      pub value_zero : d ≡ 0 → IsNumber s 1 0
      value_zero z = record {
        tick = 0;
        front = ap front_of (drop_at s 0 h) ∙ front_zero (get_or s 0 0) (drop 1 s) (sym q ∙ ap Some z);
        capped = omega arith;
        inside = omega arith;
      }

      pub digits_first : 0 < d → DigitsRead s 1 d
      digits_first p = record {
        tick = d;
        some = p;
        capped = omega (arith, byte_digit _ d (sym q));
        inside = omega arith;
        reads = ap front_of (drop_at s 0 h) ∙ front_grow (get_or s 0 0) (drop 1 s) d (sym q) p;
      }

  module _ {end value : ℕ} (g : DigitsRead s end value) where
    digits_value : grow g.tick (drop end s) ≡ (g.tick, drop end s) → IsNumber s end value
    digits_value e = record { tick = g.tick; front = g.reads ∙ ap Some e; capped = g.capped; inside = g.inside }

    pub value_end : end ≡ length s → IsNumber s (length s) value
    unfolding grow
    value_end e = let h : length s ≤ end = omega arith in
        subst (λ (k : ℕ). IsNumber s k value) e (digits_value (ap (grow g.tick) (drop_of_length-le s h) ∙ ap (λ (r : List ℕ). (g.tick, r)) (sym (drop_of_length-le s h))))

    module _ (h : end < length s) where
      pub value_other : None ≡ digit_of (get_or s end 0) → IsNumber s end value
      value_other q =
          digits_value (ap (grow g.tick) (drop_at s end h) ∙ grow_other (get_or s end 0) (drop (end + 1) s) g.tick (sym q)
          ∙ ap (λ (r : List ℕ). (g.tick, r)) (sym (drop_at s end h)))

      pub digits_more : (d value' : ℕ) → Some d ≡ digit_of (get_or s end 0) → value' ≡ min (value * 10 + d) ticks → DigitsRead s (end + 1) value'
      digits_more d value' q e = record {
        tick = g.tick * 10 + d;
        some = omega (arith, g.some);
        capped = omega (arith, e, g.capped);
        inside = omega arith;
        reads = g.reads ∙ ap Some (ap (grow g.tick) (drop_at s end h) ∙ grow_digit (get_or s end 0) (drop (end + 1) s) g.tick d (sym q));
      }

-- the ways of `read_number`
pub ruleset number_ways = (front_empty, front_bad, value_zero, digits_first, value_other, value_end, digits_more)

-- ---- the letters

-- the letters before `i` make the word w, of types below n
pub record LettersRead (s : List ℕ) (w n i : ℕ) : Type 0 where
  pub fits : w < 2 ^ n
  pub types : n ≤ letters
  pub reads : word_from n w (drop i s) ≡ word_of s

module _ {s : List ℕ} {w n i : ℕ} (g : LettersRead s w n i) where
  module _ (h : length s ≤ i) where
    letters_end : word_from n w [] ≡ word_of s
    letters_end = ap (word_from n w) (sym (drop_of_length-le s h)) ∙ g.reads

    pub no_letters : w ≡ 0 → None ≡ word_of s
    no_letters z = sym (word_empty n w z) ∙ letters_end

    pub some_letters : (w ≡ 0 → ⊥) → Some w ≡ word_of s
    some_letters p = sym (word_done n w (omega arith)) ∙ letters_end

  module _ (h : i < length s) where
    here : word_from n w (get_or s i 0 ∷ drop (i + 1) s) ≡ word_of s
    here = ap (word_from n w) (sym (drop_at s i h)) ∙ g.reads

    -- no letter, and a letter that is not in type order
    pub letters_other : None ≡ letter_of (get_or s i 0) → None ≡ word_of s
    letters_other q = sym (word_other (get_or s i 0) (drop (i + 1) s) n w (sym q)) ∙ here

    module _ (k : ℕ) (q : Some k ≡ letter_of (get_or s i 0)) where
      pub letters_low : k < n → None ≡ word_of s
      letters_low l = sym (word_low (get_or s i 0) (drop (i + 1) s) n w k (sym q) l) ∙ here

      pub letters_more : n ≤ k → k < letters → LettersRead s (w + 1 * 2 ^ k % 2 ^ letters) (k + 1) (i + 1)
      letters_more l o = record {
        fits = omega (arith, word_fits n k w l g.fits, bit_shifted k o);
        types = omega arith;
        reads =
            ap (λ (x : ℕ). word_from (k + 1) (w + x) (drop (i + 1) s)) (bit_shifted k o)
            ∙ sym (word_more (get_or s i 0) (drop (i + 1) s) n w k (sym q) l) ∙ here;
      }

-- the ways of `read_letters`
pub ruleset letter_ways = (no_letters, some_letters, letters_other, letters_low, letters_more, word_sum)

-- ---- the line

module _ (s : List ℕ) where
  pub parsed_none : front_of s ≡ None → parse s ≡ None
  unfolding parse
  parsed_none e = ap after_front e

  module _ {end value : ℕ} (i : IsNumber s end value) where
    pub parsed_end : length s ≡ end → parse s ≡ None
    unfolding parse
    parsed_end h = let l : length s ≤ end = omega arith in ap after_front (i.front ∙ ap (λ (r : List ℕ). Some (i.tick, r)) (drop_of_length-le s l))

    pub parsed_other : end < length s → (get_or s end 0 ≡ 32 → ⊥) → parse s ≡ None
    unfolding parse
    parsed_other h o = ap after_front (i.front ∙ ap (λ (r : List ℕ). Some (i.tick, r)) (drop_at s end h)) ∙ simp (ne_eqb (get_or s end 0) 32 o)

    module _ (h : end < length s) (sp : get_or s end 0 ≡ 32) where
      -- the letters, as the code takes them from the line
      abbrev pub letters_part : List ℕ
      letters_part = take (length s - (end + 1)) (drop (end + 1) s)

      parsed_word : (w : Option ℕ) → w ≡ word_of letters_part → parse s ≡ with_word i.tick w
      unfolding parse
      parsed_word w q =
          ap after_front (i.front ∙ ap (λ (r : List ℕ). Some (i.tick, r)) (drop_at s end h))
          ∙ simp (eq-eqb (get_or s end 0) 32 sp) (ap (with_word i.tick) (ap word_of (sym (take_rest s (end + 1))) ∙ sym q))

      pub parsed_no_letter : None ≡ word_of letters_part → parse s ≡ None
      parsed_no_letter q = parsed_word None q

      module _ (short : length s ≤ most_line) (w : ℕ) (q : Some w ≡ word_of letters_part) where
        line_of : LineOf s i.tick w
        line_of = line_parsed s _ (parsed_word (Some w) q)

        pub out_of_range : ticks ≤ value → IsRange s
        out_of_range o = record { short = short; tick = i.tick; events = w; line = line_of; over = omega (arith, i.capped) }

        pub in_range : value < ticks → IsTick s value w
        in_range o =
            let e : i.tick ≡ value = omega (arith, i.capped) in
            record { short = short; line = rw (← e) line_of; range = o }
