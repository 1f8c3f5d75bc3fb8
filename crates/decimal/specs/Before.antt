-- Bytes written backwards. Assumes nothing: these are definitions.
use Rattle.std.specs.Prelude.{ℕ, ◌+◌, ◌≤◌, ◌≡◌, List, ◌++◌, length}

-- bytes are written before what was written, if there is room for them among n
abbrev pub Before : ℕ → List ℕ → List ℕ → List ℕ → Type 0
Before n old new bytes = length bytes + length old ≤ n → new ≡ bytes ++ old
