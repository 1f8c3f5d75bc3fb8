-- Each claim of specs/Claim, proved: what reading and writing promise leaves no choice, since the answer is what a function of the arguments computes; and
-- what is written of a tick is read back. Assumes nothing.
use Rattle.std.specs.Prelude.{Result, Ok, Err, Option, Some, None}
use Rattle.std.proofs.lemmas.Option.{same_Some}
use mathlib.Core.Path.{◌≡◌, refl, sym, ap, ◌∙◌, subst}
use mathlib.Core.Logic.{◌⊎◌, inl, inr}
use mathlib.Core.Bool.{cond}
use Prim.Native.Nat.{ℕ, ◌<◌, ◌≤◌}
use native.Mathlib.Omega.{arith}
use mathlib.Core.List.{List, [], ◌∷◌, ◌++◌}
use lib.Dec.{ltb}
use lib.ListN.{length, drop, length-append}
use borrow.Author.Tests.{lt-ltb, le-ltb}
use Rattle.rules.specs.Limits.{letters, ticks}
use Rattle.refusal.specs.declared.Refusal.{Refusal}
use Rattle.refusal.specs.declared.Refusal.TheVariants.{Line, Range, Room}
use Rattle.decimal.proofs.Branches.{by_test, either_way}
use Rattle.line.specs.Lines.{most_line, tick_line, windows_word, ticks_word, refused_word, code_word}
use Rattle.line.specs.Answer.{LineOf, IsRange, RefusedLine, LineReadOf}
use Rattle.line.specs.Answer.RefusedLine.{long, malformed, range}
use Rattle.line.specs.Answer.RefusedWriting.{room}
use Rattle.line.specs.Claim.{OneReading, OneWriting, OneTick, ReadBack, LineExactly, RangeExactly, WrittenFits, WrittenLacks, AtMostWritten}
use Rattle.line.specs.inner.Scan.{parse}
use Rattle.line.specs.declared.Tick.{Tick}
use Rattle.decimal.proofs.Decimals.{decimal_length}
use Rattle.line.proofs.Writings.{line_length_bound}
use Rattle.line.proofs.Letters.{letters_length}
use Rattle.line.proofs.Parses.{parse_line, line_parsed}

-- ---- reading

-- reading, computed
parsed_to : Option Tick → Result Tick Refusal
parsed_to None = Err Line
parsed_to (Some r) = cond (ltb r.t ticks) (Ok r) (Err (Range 0))

read_of : List ℕ → Result Tick Refusal
read_of s = cond (ltb most_line (length s)) (Err Line) (parsed_to (parse s))

module _ (s : List ℕ) where
  of_line : (t w : ℕ) → length s ≤ most_line → LineOf s t w → read_of s ≡ cond (ltb t ticks) (Ok (record { t = t; events = w })) (Err (Range 0))
  unfolding read_of parsed_to
  of_line t w h l = simp (le-ltb most_line (length s) h, parse_line s t w l)

  of_malformed : ((t w : ℕ) → LineOf s t w → ⊥) → read_of s ≡ Err Line
  unfolding read_of parsed_to
  of_malformed f =
      by_test (λ b. cond b (Err Line) (parsed_to (parse s)) ≡ Err Line) (ltb most_line (length s)) (λ e. refl) (λ e. go (parse s) refl)
    where
      go : (p : Option Tick) → parse s ≡ p → parsed_to p ≡ Err Line
      go None q = refl
      go (Some r) q = absurd (f r.t r.events (line_parsed s r q))

  decided : (r : Result Tick Refusal) → LineReadOf s r → read_of s ≡ r
  unfolding read_of
  decided (Ok r) a = of_line r.t r.events a.short a.line ∙ simp (lt-ltb r.t ticks a.range)
  decided (Err r) (long h) = simp (lt-ltb most_line (length s) h)
  decided (Err r) (malformed f) = of_malformed f
  decided (Err r) (range i) = of_line i.tick i.events i.short i.line ∙ simp (le-ltb i.tick ticks i.over)

pub one_reading : OneReading
one_reading s r₁ r₂ a b = sym (decided s r₁ a) ∙ decided s r₂ b

pub one_tick : OneTick
one_tick s t w t' w' a b =
    let same : record { t = t; events = w } ≡ record { t = t'; events = w' } = same_Some _ _ (sym (parse_line s t w a) ∙ parse_line s t' w' b) in
    (ap (λ (r : Tick). r.t) same, ap (λ (r : Tick). r.events) same)

tick_short : (t w : ℕ) → t < ticks → length (tick_line t w) ≤ most_line
tick_short t w h = simp length-append (omega (arith, decimal_length 9 t (omega arith), letters_length letters 0 w))

pub read_back : ReadBack
read_back t w r h p f a =
    one_reading (tick_line t w) r (Ok (record { t = t; events = w })) a
    (record { short = tick_short t w h; line = record { some = p; fits = f; same = refl }; range = h })

is_line : {s : List ℕ} → RefusedLine s Line → (most_line < length s) ⊎ ((t w : ℕ) → LineOf s t w → ⊥)
is_line (long h) = inl h
is_line (malformed f) = inr f

is_range : {s : List ℕ} → RefusedLine s (Range 0) → IsRange s
is_range (range i) = i

pub line_exactly : LineExactly
line_exactly s r a = (λ e. is_line (subst (LineReadOf s) e a), back)
  where
    back : (most_line < length s) ⊎ ((t w : ℕ) → LineOf s t w → ⊥) → r ≡ Err Line
    back (inl h) = one_reading s r (Err Line) a (long h)
    back (inr f) = one_reading s r (Err Line) a (malformed f)

pub range_exactly : RangeExactly
range_exactly s r a = (λ e. is_range (subst (LineReadOf s) e a), λ i. one_reading s r (Err (Range 0)) a (range i))

-- ---- writing

pub written_fits : WrittenFits
written_fits bytes d d' (Ok n) a h =
    (ap Ok a.counts, a.written ∙ ap (λ (k : ℕ). bytes ++ drop k d) a.counts)
written_fits bytes d d' (Err r) (room i, k) h = absurd (omega (arith, i.needs, i.lacks))

pub written_lacks : WrittenLacks
written_lacks bytes d d' (Ok n) a h = absurd (omega (arith, a.counts, a.fits))
written_lacks bytes d d' (Err r) (room i, k) h = (ap (λ (n : ℕ). Err (Room n)) i.needs, k)

-- two answers that are each the same third
same : {r r₁ r₂ : Result ℕ Refusal} {e d₁ d₂ : List ℕ} → (r₁ ≡ r) × (d₁ ≡ e) → (r₂ ≡ r) × (d₂ ≡ e) → (r₁ ≡ r₂) × (d₁ ≡ d₂)
same a b = (a.0 ∙ sym b.0, a.1 ∙ sym b.1)

pub one_writing : OneWriting
one_writing bytes d d₁ d₂ r₁ r₂ a b = either_way (length d) (length bytes) lacks fits
  where
    lacks : length d < length bytes → (r₁ ≡ r₂) × (d₁ ≡ d₂)
    lacks h = same (written_lacks bytes d d₁ r₁ a h) (written_lacks bytes d d₂ r₂ b h)

    fits : length bytes ≤ length d → (r₁ ≡ r₂) × (d₁ ≡ d₂)
    fits h = same (written_fits bytes d d₁ r₁ a h) (written_fits bytes d d₂ r₂ b h)

-- ---- lengths

pub at_most_written : AtMostWritten
at_most_written a b p q = (
  omega (arith, line_length_bound [] (32 ∷ []) a b p q),
  omega (arith, line_length_bound windows_word ticks_word a b p q),
  omega (arith, line_length_bound refused_word code_word a b p q),
)
