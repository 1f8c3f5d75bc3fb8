-- A piece behind the bytes held: how much of it is copied, and the line that two pieces make. Assumes nothing.
use Prim.Native.Nat.{ℕ, ◌+◌, ◌-◌, ◌≤◌, min}
use mathlib.Core.Path.{◌≡◌, sym, ap, ◌∙◌}
use mathlib.Core.List.{List, [], ◌++◌, append_assoc, append-nil}
use native.Mathlib.Decide.{dec_le}
use native.Mathlib.Omega.{arith}
use lib.ListN.{length, take, drop, length-take, length-drop, length-append, drop_of_length-le}
use lib.Seq.{paste, length-take-le, take_all, take-length, take_at, drop-drop, take-append-add}
use borrow.Rule.Slice.PartMut.{mid_of, put_mid}
use Rattle.watching.specs.Chunk.{most_held}
use Rattle.watching.specs.inner.Progress.{Appended}

-- the first k of a list are its first n, where that is the lesser of k and its length
pub take_least : (l : List ℕ) (k n : ℕ) → n ≡ min (length l) k → take k l ≡ take n l
take_least l k n e = go (dec_le k (length l))
  where
    go : Dec (k ≤ length l) → take k l ≡ take n l
    go (yes h) = let q : k ≡ n = omega arith in rw q
    go (no h) = take_all k l (omega arith) ∙ sym (take_all n l (omega arith))

-- a part up to the end of a list is the rest of it, and is put back as such
pub lent_rest : (at : ℕ) (d : List ℕ) → mid_of at (length d - at) d ≡ drop at d
lent_rest at d = take_all (length d - at) (drop at d) (omega (arith, length-drop at d))

pub rest_back : (at : ℕ) (d e : List ℕ) → put_mid at (length d - at) d e ≡ take at d ++ e
rest_back at d e =
    let none : drop (length d - at) (drop at d) ≡ [] = drop_of_length-le (drop at d) {i = length d - at} (omega (arith, length-drop at d)) in
    rw (none, append-nil e)

-- a copy of as many bytes as fit
pub appended : (p piece p' : List ℕ) (from n : ℕ) → from ≤ most_held → most_held ≤ length p → n ≡ min (length piece) (most_held - from)
    → p' ≡ paste p from piece n → Appended p from piece p' (from + n)
appended p piece p' from n f m e q =
    let long : length (take from p) ≡ from = length-take-le from p (omega arith) in
    let sum : most_held ≡ length (take from p) + (most_held - from) = omega arith in
    let cut : take most_held (take from p ++ piece) ≡ take from p ++ take n piece =
    ap (λ (k : ℕ). take k (take from p ++ piece)) sum ∙ take-append-add (take from p) piece (most_held - from)
    ∙ ap (λ (l : List ℕ). take from p ++ l) (take_least piece (most_held - from) n e) in
    record {
      counts = rw cut (omega (arith, length-append (take from p) (take n piece), length-take-le n piece (omega arith)));
      holds = q ∙ ap (λ (l : List ℕ). l ++ drop (from + n) p) (sym cut);
    }

-- as `copying::copy` copies a part of the piece to the rest of the bytes
pub copy_appended : (p piece e : List ℕ) (from n : ℕ) → from ≤ most_held → most_held ≤ length p → n ≡ min (length piece) (most_held - from)
    → e ≡ take (length (take (n - 0) piece)) (take (n - 0) piece) ++ drop (length (take (n - 0) piece)) (mid_of from (length p - from) p)
    → Appended p from piece (put_mid from (length p - from) p e) (from + n)
copy_appended p piece e from n f m h q =
    let all : n - 0 ≡ n = omega arith in
    let long : length (take n piece) ≡ n = length-take-le n piece (omega arith) in
    let copied = rw (all, take-length (take n piece), long, lent_rest from p, drop-drop n from p) at q in
    appended p piece (put_mid from (length p - from) p e) from n f m h
    (rest_back from p e ∙ ap (λ (l : List ℕ). take from p ++ l) copied ∙ sym (append_assoc (take from p) (take n piece) (drop (from + n) p)))

module _ {p piece p' : List ℕ} {from n : ℕ} (a : Appended p from piece p' n) where
  -- what is held after it
  pub appended_first : take n p' ≡ take most_held (take from p ++ piece)
  appended_first = ap (take n) a.holds ∙ take_at _ _ n (sym a.counts)

-- the line of the bytes held and a piece, joined behind nothing
pub joined_line : {held line₀ line₁ piece line₂ : List ℕ} {from n : ℕ} → length held ≤ most_held → Appended line₀ 0 held line₁ from
    → Appended line₁ from piece line₂ n → take n line₂ ≡ take most_held (held ++ piece)
joined_line {held} {line₀} {line₁} {piece} h a b =
    appended_first b ∙ ap (λ (l : List ℕ). take most_held (l ++ piece)) (appended_first a ∙ take_all most_held held h)
