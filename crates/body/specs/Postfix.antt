-- The body of a pattern: the tree in postfix order (docs/RULES.md, "Bodies"). Assumes nothing: these are definitions.
use Rattle.std.specs.Prelude.{ℕ, ◌≤◌, ◌^◌, List, [], ◌∷◌, ◌++◌}
use Rattle.rules.specs.Limits.{most_entries}
use Rattle.rules.specs.Pattern.{Pattern, event, pair, within, size, Proper}
use Rattle.body.specs.declared.Entry.{Entry}
use Rattle.body.specs.declared.Entry.TheVariants.{Letter, Pair, Within}
use Rattle.body.specs.Entry.{entries_bytes}

-- the left operand first, the operator last
unfoldable pub postfix : Pattern → List Entry
postfix (event n) = Letter n ∷ []
postfix (pair op x y) = postfix x ++ (postfix y ++ (Pair op ∷ []))
postfix (within x n) = postfix x ++ (Within n ∷ [])

-- the body of a pattern, with arguments of `width` bytes
unfoldable pub encode : ℕ → Pattern → List ℕ
encode width e = entries_bytes width (postfix e)

-- a pattern that a body can hold: its types and numbers fit, and it has at most 63 entries
pub record Bodied (width : ℕ) (e : Pattern) : Type 0 where
  pub proper : Proper (256 ^ width) e
  pub few : size e ≤ most_entries
