-- Numbers in bytes, low byte first, over the number of bytes. Assumes nothing: these are definitions.
use Rattle.std.specs.Prelude.{ℕ, zero, suc, ◌+◌, ◌*◌, ◌/◌, ◌%◌, ◌<◌, List, [], ◌∷◌, get_or}

-- the bytes of a number
unfoldable pub bytes_of : ℕ → ℕ → List ℕ
bytes_of zero n = []
bytes_of (suc width) n = n % 256 ∷ bytes_of width (n / 256)

-- the number that the bytes at a place stand for
unfoldable pub value_at : ℕ → List ℕ → ℕ → ℕ
value_at zero b k = 0
value_at (suc width) b k = get_or b k 0 + 256 * value_at width b (k + 1)

-- a list of bytes
abbrev pub Bytes : List ℕ → Type 0
Bytes b = (k : ℕ) → get_or b k 0 < 256
