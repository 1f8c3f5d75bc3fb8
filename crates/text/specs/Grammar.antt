-- What a pattern's text is, and what begins one. Assumes nothing: these are definitions.
use Rattle.std.specs.Prelude.{◌≡◌, ℕ, ◌≤◌, List, ◌++◌, length, take}
use Rattle.rules.specs.Pattern.{Pattern, Proper}
use Rattle.text.specs.Render.{numbers, render}

-- s is the text of the pattern e, whose event types exist and whose restriction numbers are in range
pub record TextOf (s : List ℕ) (e : Pattern) : Type 0 where
  pub proper : Proper numbers e
  pub same : s ≡ render e

-- s begins the text of some pattern, of any length
pub record Begins (s : List ℕ) : Type 0 where
  pub tree : Pattern
  pub rest : List ℕ
  pub text : TextOf (s ++ rest) tree

-- s is the text of no pattern, and `place` is the number of bytes in its longest prefix that begins one
pub record Broken (s : List ℕ) (place : ℕ) : Type 0 where
  pub no_text : (e : Pattern) → TextOf s e → ⊥
  pub inside : place ≤ length s
  pub begins : Begins (take place s)
  pub longest : (n : ℕ) → n ≤ length s → Begins (take n s) → n ≤ place
