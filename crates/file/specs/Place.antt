-- Where the bodies of a file are, as its contents say (docs/RULES.md, "Pattern files"). Assumes nothing: these are definitions.
use Rattle.std.specs.Prelude.{ℕ, ◌+◌, cond, List, ltb, leb, length, get_or, drop, None, Option, Some}
use Rattle.body.specs.Bytes.{value_at}
use Rattle.file.specs.declared.Place.{Place}
use Rattle.file.specs.Contents.{body_bytes, bodies_at}

-- the part of a file that begins at a byte and has a number of bytes
abbrev pub place_at : ℕ → ℕ → Place
place_at from long = record { from = from; long = long }

-- where the body is whose entry the contents begin with: at its offset, with the bytes of its number of entries
abbrev pub place_in : List ℕ → Place
place_in c = place_at (value_at 2 c 8) (body_bytes (get_or c 10 0))

-- how many patterns a file says it has, 0 if it is empty
abbrev pub pattern_count : List ℕ → ℕ
pattern_count f = get_or f 0 0

-- where body number i is: nowhere if the file has no such pattern, or its contents end before that entry does
unfoldable pub body_place : List ℕ → ℕ → Option Place
body_place f i = cond (ltb i (pattern_count f)) (cond (leb (bodies_at (i + 1)) (length f)) (Some (place_in (drop (bodies_at i) f))) None) None
