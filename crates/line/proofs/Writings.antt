-- How long a line is, and the ways that `write_line` ends: one lemma for each answer. Assumes nothing.
use mathlib.Core.Path.{◌≡◌, ◌∙◌}
use Prim.Native.Nat.{ℕ, ◌+◌, ◌^◌, ◌<◌, ◌≤◌}
use native.Mathlib.Omega.{arith}
use mathlib.Core.List.{List, [], ◌∷◌, ◌++◌, append-nil}
use lib.ListN.{length, length-append}
use Rattle.decimal.specs.Decimal.{decimal}
use Rattle.decimal.specs.Before.{Before}
use Rattle.decimal.proofs.Written.{before_it}
use Rattle.copying.specs.Copy.{CopyOf}
use Rattle.text.proofs.Copies.{by_copy}
use Rattle.std.specs.Prelude.{Result, Ok}
use Rattle.std.specs.Result.{MatchResult, IsErrAnd}
use Rattle.refusal.specs.declared.Refusal.{Refusal}
use Rattle.refusal.specs.declared.Refusal.TheVariants.{Room}
use Rattle.decimal.proofs.Decimals.{decimal_length}
use Rattle.line.specs.Lines.{most_digits, most_tally, numbers_line}
use Rattle.line.specs.Answer.{LineWrittenOf}
use Rattle.line.specs.Answer.RefusedWriting.{room}

decimal_fits : (n : ℕ) → n < 2 ^ 64 → length (decimal n) ≤ most_digits
decimal_fits n h = decimal_length 19 n (omega arith)

pub line_length_bound : (one two : List ℕ) (a b : ℕ) → a < 2 ^ 64 → b < 2 ^ 64
    → length (numbers_line one a two b) ≤ length one + most_digits + length two + most_digits + 1
line_length_bound one two a b p q =
    simp length-append (omega (arith, decimal_fits a p, decimal_fits b q))

-- the whole line, part by part
pub line_is : (one two : List ℕ) (a b : ℕ) (d₁ d₂ d₃ d₄ d₅ : List ℕ) → length (numbers_line one a two b) ≤ most_tally
    → Before most_tally [] d₁ (10 ∷ []) → Before most_tally d₁ d₂ (decimal b) → Before most_tally d₂ d₃ two
    → Before most_tally d₃ d₄ (decimal a) → Before most_tally d₄ d₅ one → d₅ ≡ numbers_line one a two b
line_is one two a b d₁ d₂ d₃ d₄ d₅ fits p q r s t =
    let second = before_it most_tally [] d₁ d₂ (decimal b) (10 ∷ []) p q in
    let middle = before_it most_tally [] d₂ d₃ two (decimal b ++ (10 ∷ [])) second r in
    let first = before_it most_tally [] d₃ d₄ (decimal a) (two ++ (decimal b ++ (10 ∷ []))) middle s in
    let whole = before_it most_tally [] d₄ d₅ one (decimal a ++ (two ++ (decimal b ++ (10 ∷ [])))) first t in
    whole (omega (arith, fits)) ∙ append-nil (numbers_line one a two b)

-- the answer, by the copy
pub written : (bytes d d' : List ℕ) (r : Result ℕ ℕ) (q : Result ℕ Refusal) → CopyOf bytes d d' r
    → MatchResult r (λ n. q ≡ Ok n) (λ n. IsErrAnd q (λ y. y ≡ Room n)) → LineWrittenOf bytes d d' q
written bytes d d' r q a e =
    by_copy (LineWrittenOf bytes d d') bytes d d' r q a e
    (λ n i. record { counts = i.counts; fits = i.fits; written = i.copied })
    (λ n i. (room (record { needs = i.needs; lacks = i.lacks }), i.kept))
