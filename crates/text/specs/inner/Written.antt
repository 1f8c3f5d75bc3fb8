-- How entries are written among others; no public contract cites these. Assumes nothing: these are definitions.
use Rattle.std.specs.Prelude.{◌≡◌, ℕ, ◌+◌, ◌*◌, List, length}
use Rattle.std.proofs.lemmas.List.Edits.{sets}
use Rattle.rules.specs.Limits.{argument_bytes, most_entries}

-- the bytes of an entry, and of the longest body
abbrev pub entry_length : ℕ
entry_length = argument_bytes + 1

abbrev pub body_length : ℕ
body_length = most_entries * entry_length

-- where an entry is written among others, the body d holds d' afterwards; one beyond the last place changes nothing
abbrev pub Written : List ℕ → List ℕ → ℕ → List ℕ → Type 0
Written d d' n bytes = length d ≡ body_length → d' ≡ sets d (n * entry_length) bytes
