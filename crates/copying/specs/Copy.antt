-- Copying where there is room for it. Assumes nothing: these are definitions.
use Rattle.std.specs.Prelude.{◌≡◌, ℕ, ◌<◌, ◌≤◌, List, ◌++◌, length, drop, Result, Ok, Err}

-- the n bytes s are copied to the front of d, which holds d' afterwards: the bytes, and then what stood there before
pub record IsCopied (s d d' : List ℕ) (n : ℕ) : Type 0 where
  pub counts : n ≡ length s
  pub fits : n ≤ length d
  pub copied : d' ≡ s ++ drop n d

-- d is too short for the bytes s, which need room for n, and is left as it was
pub record IsShort (s d d' : List ℕ) (n : ℕ) : Type 0 where
  pub needs : n ≡ length s
  pub lacks : length d < n
  pub kept : d' ≡ d

-- the answer to copying s to d
abbrev pub CopyOf : List ℕ → List ℕ → List ℕ → Result ℕ ℕ → Type 0
CopyOf s d d' (Ok n) = IsCopied s d d' n
CopyOf s d d' (Err n) = IsShort s d d' n
