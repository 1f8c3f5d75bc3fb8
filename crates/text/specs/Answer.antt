-- What reading and printing answer, refusals in the order of docs/RULES.md, "Refusals"; and what the caller's slice holds afterwards.
-- Assumes nothing: these are definitions.
use Rattle.std.specs.Prelude.{◌≡◌, ℕ, ◌<◌, ◌≤◌, List, ◌++◌, length, drop, Result, Ok, Err}
use Rattle.rules.specs.Limits.{argument_bytes, most_entries, most_text}
use Rattle.rules.specs.Pattern.{Pattern, size}
use Rattle.refusal.specs.declared.Refusal.{Refusal}
use Rattle.refusal.specs.declared.Refusal.TheVariants.{Long, Syntax, Many, Room}
use Rattle.body.specs.Postfix.{encode}
use Rattle.body.specs.Check.{check_of}
use Rattle.body.specs.Claim.{BodyOf}
use Rattle.text.specs.Render.{render}
use Rattle.text.specs.Grammar.{TextOf, Broken}

-- the text s is short enough and the text of a pattern, its tree
pub record IsText (s : List ℕ) : Type 0 where
  pub short : length s ≤ most_text
  pub tree : Pattern
  pub text : TextOf s tree

-- 1: the text is over 1,024 bytes
pub record IsLong (s : List ℕ) : Type 0 where
  pub long : most_text < length s

-- 2: it is not an expression; the place is the number of bytes in the longest prefix that begins some expression of any length
pub record IsSyntax (s : List ℕ) (place : ℕ) : Type 0 where
  pub short : length s ≤ most_text
  pub broken : Broken s place

-- 3: it has over 63 entries
pub record IsMany (s : List ℕ) : Type 0 where
  pub some : IsText s
  pub many : most_entries < size some.tree

-- 8: the slice d for the body is too short; the place is the length needed
pub record IsRoom (s d : List ℕ) (need : ℕ) : Type 0 where
  pub some : IsText s
  pub few : size some.tree ≤ most_entries
  pub needs : need ≡ length (encode argument_bytes some.tree)
  pub lacks : length d < need

-- the body is written to d, which holds d' afterwards: the body, and then what stood there before
pub record IsRead (s d d' : List ℕ) (bytes : ℕ) : Type 0 where
  pub some : IsText s
  pub few : size some.tree ≤ most_entries
  pub counts : bytes ≡ length (encode argument_bytes some.tree)
  pub fits : bytes ≤ length d
  pub written : d' ≡ encode argument_bytes some.tree ++ drop bytes d

-- a text is refused with these, and with no other
pub data RefusedText (s d : List ℕ) : Refusal → Type 0 where
  long : IsLong s → RefusedText s d Long
  syntax : {place : ℕ} → IsSyntax s place → RefusedText s d (Syntax place)
  many : IsMany s → RefusedText s d Many
  room : {need : ℕ} → IsRoom s d need → RefusedText s d (Room need)

-- the answer to reading s into the slice d, which holds d' afterwards; a refusal changes nothing
abbrev pub ReadingOf : List ℕ → List ℕ → List ℕ → Result ℕ Refusal → Type 0
ReadingOf s d d' (Ok bytes) = IsRead s d d' bytes
ReadingOf s d d' (Err r) = RefusedText s d r × (d' ≡ d)

-- the body b is that of a pattern, its tree
pub record IsBody (b : List ℕ) : Type 0 where
  pub tree : Pattern
  pub body : BodyOf argument_bytes b tree

-- 6, 7: the check of a lone body refuses it
pub record IsUnsound (b : List ℕ) (r : Refusal) : Type 0 where
  pub unsound : check_of argument_bytes b ≡ Err r

-- 8: the slice d for the text is too short; the place is the length needed
pub record IsTextRoom (b d : List ℕ) (need : ℕ) : Type 0 where
  pub some : IsBody b
  pub needs : need ≡ length (render some.tree)
  pub lacks : length d < need

-- the text is written to d, which holds d' afterwards: the text, and then what stood there before
pub record IsPrinted (b d d' : List ℕ) (bytes : ℕ) : Type 0 where
  pub some : IsBody b
  pub counts : bytes ≡ length (render some.tree)
  pub fits : bytes ≤ length d
  pub written : d' ≡ render some.tree ++ drop bytes d

-- a body is refused with these, and with no other
pub data RefusedBody (b d : List ℕ) : Refusal → Type 0 where
  unsound : {r : Refusal} → IsUnsound b r → RefusedBody b d r
  room : {need : ℕ} → IsTextRoom b d need → RefusedBody b d (Room need)

-- the answer to printing b into the slice d, which holds d' afterwards; a refusal changes nothing
abbrev pub PrintingOf : List ℕ → List ℕ → List ℕ → Result ℕ Refusal → Type 0
PrintingOf b d d' (Ok bytes) = IsPrinted b d d' bytes
PrintingOf b d d' (Err r) = RefusedBody b d r × (d' ≡ d)
