-- What is claimed of reading and printing. Assumes nothing: these are definitions.
use Rattle.std.specs.Prelude.{◌≡◌, ℕ, ◌≤◌, ◌↔◌, List, ◌++◌, length, take, drop, Result, Ok, Err}
use Rattle.rules.specs.Limits.{argument_bytes, most_entries, most_text}
use Rattle.rules.specs.Pattern.{Pattern, size}
use Rattle.refusal.specs.declared.Refusal.{Refusal}
use Rattle.refusal.specs.declared.Refusal.TheVariants.{Syntax}
use Rattle.body.specs.Postfix.{encode}
use Rattle.body.specs.Claim.{BodyOf}
use Rattle.text.specs.Render.{most_printed, render}
use Rattle.text.specs.Grammar.{TextOf, Broken}
use Rattle.text.specs.Answer.{ReadingOf, PrintingOf}

-- only one answer and one slice meet what reading promises
abbrev pub OneReading : Type 0
OneReading =
    (s d d₁ d₂ : List ℕ) (r₁ r₂ : Result ℕ Refusal) → ReadingOf s d d₁ r₁ → ReadingOf s d d₂ r₂ → (r₁ ≡ r₂) × (d₁ ≡ d₂)

-- and only one what printing promises
abbrev pub OnePrinting : Type 0
OnePrinting =
    (b d d₁ d₂ : List ℕ) (r₁ r₂ : Result ℕ Refusal) → PrintingOf b d d₁ r₁ → PrintingOf b d d₂ r₂ → (r₁ ≡ r₂) × (d₁ ≡ d₂)

-- s is the text of the pattern e, within the limits on texts and bodies, and d has room for the body
pub record Readable (s d : List ℕ) (e : Pattern) : Type 0 where
  pub text : TextOf s e
  pub short : length s ≤ most_text
  pub few : size e ≤ most_entries
  pub room : length (encode argument_bytes e) ≤ length d

-- a text is accepted exactly if it is the text of a pattern, within the limits
abbrev pub AcceptedExactly : Type 0
AcceptedExactly =
    (s d d' : List ℕ) (r : Result ℕ Refusal)
    → ReadingOf s d d' r
    → ((bytes : ℕ) × (r ≡ Ok bytes)) ↔ ((e : Pattern) × Readable s d e)

-- a text within the limit on texts is refused for its syntax exactly if it is the text of no pattern
abbrev pub SyntaxExactly : Type 0
SyntaxExactly =
    (s d d' : List ℕ) (r : Result ℕ Refusal)
    → ReadingOf s d d' r
    → ((place : ℕ) × (r ≡ Err (Syntax place))) ↔ ((length s ≤ most_text) × ((e : Pattern) → TextOf s e → ⊥))

-- the place is the number of bytes in the longest prefix that begins some expression of any length
abbrev pub LongestPrefix : Type 0
LongestPrefix = (s d d' : List ℕ) (place : ℕ) → ReadingOf s d d' (Err (Syntax place)) → Broken s place

-- a pattern is known by its text
abbrev pub OnePattern : Type 0
OnePattern = (s : List ℕ) (e e' : Pattern) → TextOf s e → TextOf s e' → e ≡ e'

-- what was printed is read back to the body
abbrev pub ReadPrinted : Type 0
ReadPrinted =
    (b d d' : List ℕ) (bytes : ℕ)
    → PrintingOf b d d' (Ok bytes)
    → (g g' : List ℕ) (r : Result ℕ Refusal)
    → length b ≤ length g
    → ReadingOf (take bytes d') g g' r
    → (r ≡ Ok (length b)) × (g' ≡ b ++ drop (length b) g)

-- what was read is printed back to the text
abbrev pub PrintedRead : Type 0
PrintedRead =
    (s d d' : List ℕ) (bytes : ℕ)
    → ReadingOf s d d' (Ok bytes)
    → (g g' : List ℕ) (r : Result ℕ Refusal)
    → length s ≤ length g
    → PrintingOf (take bytes d') g g' r
    → (r ≡ Ok (length s)) × (g' ≡ s ++ drop (length s) g)

-- the text of a valid body never has more than 807 bytes
abbrev pub AtMostPrinted : Type 0
AtMostPrinted = (b : List ℕ) (e : Pattern) → BodyOf argument_bytes b e → length (render e) ≤ most_printed
