-- What the inner functions of the check and of the writer require. Assumes nothing: these are definitions.
use Rattle.std.specs.Prelude.{ℕ, ◌*◌, ◌≤◌, ◌≡◌, List, length}
use Rattle.rules.specs.Limits.{most_patterns}
use Rattle.file.specs.Contents.{contents_bytes, name_bytes, total}

-- at most 16 numbers of entries
abbrev pub Few : List ℕ → Type 0
Few counts = length counts ≤ most_patterns

-- contents that are not cut short
pub record Held (count : ℕ) (f : List ℕ) : Type 0 where
  pub few : count ≤ most_patterns
  pub held : contents_bytes * count ≤ length f

-- a name for each number of entries
abbrev pub Named : List ℕ → List ℕ → Type 0
Named names counts = length names ≡ name_bytes * length counts

-- bodies that end where their numbers of entries say
abbrev pub Whole : List ℕ → List ℕ → Type 0
Whole counts bodies = length bodies ≡ total counts

-- a name, and the slice for its entry of the contents
pub record EntryReady (name entry : List ℕ) : Type 0 where
  pub named : length name ≡ name_bytes
  pub long : length entry ≡ contents_bytes

-- names with their numbers of entries, and the slice for their contents
pub record ContentsReady (names counts part : List ℕ) : Type 0 where
  pub few : Few counts
  pub named : Named names counts
  pub long : length part ≡ contents_bytes * length counts
