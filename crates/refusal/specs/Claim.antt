-- What is claimed of the status word, and proved in proofs/Theorem. Assumes nothing: these are definitions.
use Rattle.std.specs.Prelude.{◌≡◌, ℕ, ◌/◌, ◌%◌, ◌^◌, ◌≤◌, ◌<◌, min}
use Rattle.refusal.specs.declared.Refusal.{Refusal}
use Rattle.refusal.specs.Table.{number_of, place_of, entry_named, most_place, most_entry, packed_of}

-- no refusal has the number 0, which stands for an accepted call, and each number fits its 8 bits
abbrev pub Numbered : Type 0
Numbered = (r : Refusal) → (1 ≤ number_of r) × (number_of r < 2 ^ 8)

-- number, place and entry are read back from the status word, and its bits from 48 on are free
pub record IsUnpacked (r : Refusal) (word : ℕ) : Type 0 where
  pub number : word % 2 ^ 8 ≡ number_of r
  pub place : word / 2 ^ 8 % 2 ^ 32 ≡ min (place_of r) most_place
  pub entry : word / 2 ^ 40 % 2 ^ 8 ≡ min (entry_named r) most_entry
  pub free : word < 2 ^ 48

abbrev pub Unpacks : Type 0
Unpacks = (r : Refusal) → IsUnpacked r (packed_of r)
