-- A line is read to a tick and a word exactly if it is their line. Assumes nothing.
use Rattle.std.specs.Prelude.{Option, Some, None}
use Rattle.std.proofs.lemmas.Option.{none-some, same_Some}
use mathlib.Core.Path.{◌≡◌, refl, sym, ap, ◌∙◌}
use Prim.Native.Nat.{ℕ}
use mathlib.Core.List.{List, [], ◌∷◌, ◌++◌}
use borrow.Author.Tests.{eq-eqb, ne_eqb}
use Rattle.decimal.proofs.Branches.{either_is}
use Rattle.line.specs.Lines.{letters_of}
use Rattle.decimal.specs.Decimal.{decimal}
use Rattle.line.specs.declared.Tick.{Tick}
use Rattle.line.specs.Answer.{LineOf}
use Rattle.line.specs.inner.Scan.{front_of, word_of, with_word, after_number, after_front, parse}
use Rattle.line.proofs.Numbers.{front_decimal, front_sound}
use Rattle.line.proofs.Letters.{word_letters, letters_word}

-- a tick's line is read to the tick and its events
pub parse_line : (s : List ℕ) (t w : ℕ) → LineOf s t w → parse s ≡ Some (record { t = t; events = w })
unfolding parse
parse_line s t w l =
    ap (λ (x : List ℕ). after_front (front_of x)) l.same
    ∙ ap after_front (front_decimal t (letters_of w))
    ∙ ap (with_word t) (word_letters w l.some l.fits)

-- what is read to a tick and a word is their line
pub line_parsed : (s : List ℕ) (r : Tick) → parse s ≡ Some r → LineOf s r.t r.events
unfolding parse
line_parsed s r e = at_front (front_of s) refl e
  where
    at_word : (n : ℕ) (rest : List ℕ) → s ≡ decimal n ++ (32 ∷ rest) → (o : Option ℕ) → word_of rest ≡ o → with_word n o ≡ Some r → LineOf s r.t r.events
    at_word n rest q None z e = absurd (none-some r e)
    at_word n rest q (Some w) z e =
        let a : record { t = n; events = w } ≡ r = same_Some _ _ e in
        let f = letters_word rest w z in
        rw (← a) (record { some = f.2; fits = f.1; same = q ∙ ap (λ (x : List ℕ). decimal n ++ (32 ∷ x)) f.0 })

    at_front : (f : Option (ℕ × List ℕ)) → front_of s ≡ f → after_front f ≡ Some r → LineOf s r.t r.events
    at_front None q e = absurd (none-some r e)
    at_front (Some (n, [])) q e = absurd (none-some r e)
    at_front (Some (n, c ∷ rest)) q e =
        either_is c 32
        (λ z. at_word n rest (front_sound s n (c ∷ rest) q ∙ ap (λ (x : ℕ). decimal n ++ (x ∷ rest)) z) (word_of rest) refl
        (let x : after_number n (c ∷ rest) ≡ with_word n (word_of rest) = simp (eq-eqb c 32 z) in sym x ∙ e))
        (λ z. let x : after_number n (c ∷ rest) ≡ None = simp (ne_eqb c 32 z) in
        absurd (none-some r (sym x ∙ e)))

-- a malformed line is the line of no tick
pub no_line : (s : List ℕ) → parse s ≡ None → (t w : ℕ) → LineOf s t w → ⊥
no_line s e t w l = none-some _ (sym e ∙ parse_line s t w l)
