-- A pattern file: the count, the contents, then the bodies (docs/RULES.md, "Pattern files"). Assumes nothing: these are definitions.
use Rattle.std.specs.Prelude.{ℕ, ◌+◌, ◌*◌, Bool, true, false, cond, List, [], ◌∷◌, ◌++◌, ltb, leb, eqb, length, get_or, take, drop}
use Rattle.rules.specs.Limits.{argument_bytes}
use Rattle.body.specs.Bytes.{bytes_of}

-- `A`..`Z` or `0`..`9`
unfoldable pub name_byte : ℕ → Bool
name_byte c = cond (leb 65 c) (leb c 90) (cond (leb 48 c) (leb c 57) false)

-- only spaces
unfoldable pub spaces : List ℕ → Bool
spaces [] = true
spaces (c ∷ l) = cond (eqb c 32) (spaces l) false

-- letters and digits, padded at the end with spaces
unfoldable pub padded : List ℕ → Bool
padded [] = true
padded (c ∷ l) = cond (name_byte c) (padded l) (cond (eqb c 32) (spaces l) false)

-- a name: at least one letter or digit, then padding
unfoldable pub named : List ℕ → Bool
named [] = false
named (c ∷ l) = cond (name_byte c) (padded l) false

-- the first stands strictly before the second in byte order
unfoldable pub below : List ℕ → List ℕ → Bool
below [] [] = false
below [] (d ∷ m) = true
below (c ∷ l) [] = false
below (c ∷ l) (d ∷ m) = cond (ltb c d) true (cond (eqb c d) (below l m) false)

-- how many bytes a body of n entries has
abbrev pub body_bytes : ℕ → ℕ
body_bytes n = n * (argument_bytes + 1)

-- how many bytes a name has, and an entry of the contents
abbrev pub name_bytes : ℕ
name_bytes = 8

abbrev pub contents_bytes : ℕ
contents_bytes = 12

-- where the bodies begin in a file of `count` patterns
abbrev pub bodies_at : ℕ → ℕ
bodies_at count = 1 + contents_bytes * count

-- name number i, of names given end to end
abbrev pub name_of : List ℕ → ℕ → List ℕ
name_of names i = take name_bytes (drop (i * name_bytes) names)

-- an entry of the contents: name, offset of the body (low byte first), number of entries, a zero byte
abbrev pub content_of : List ℕ → ℕ → ℕ → List ℕ
content_of name offset n = name ++ (bytes_of 2 offset ++ (n ∷ 0 ∷ []))

-- the contents: an entry for each name and number of entries, where each body begins where the one before it ends
unfoldable pub contents : List ℕ → List ℕ → ℕ → List ℕ
contents names [] offset = []
contents names (n ∷ counts) offset = content_of (take name_bytes names) offset n ++ contents (drop name_bytes names) counts (offset + body_bytes n)

-- the file that has these names, numbers of entries (one for each pattern) and bodies, all given end to end
abbrev pub file_of : List ℕ → List ℕ → List ℕ → List ℕ
file_of names counts bodies = length counts ∷ (contents names counts (bodies_at (length counts)) ++ bodies)

-- how many bytes all bodies have
unfoldable pub total : List ℕ → ℕ
total [] = 0
total (n ∷ counts) = body_bytes n + total counts

-- where body number i begins in a file
abbrev pub body_at : List ℕ → ℕ → ℕ
body_at counts i = bodies_at (length counts) + total (take i counts)

-- body number i, of bodies given end to end
abbrev pub body_of : List ℕ → List ℕ → ℕ → List ℕ
body_of counts bodies i = take (body_bytes (get_or counts i 0)) (drop (total (take i counts)) bodies)
