-- Numbers and their bytes, each law by one induction on the number of bytes. Assumes nothing.
use Prim.Native.Nat.{ℕ, zero, suc, ◌+◌, ◌*◌, ◌/◌, ◌%◌, ◌<◌, ◌≤◌, ◌^◌}
use mathlib.Core.Path.{◌≡◌, refl, sym, ap, ap₂, ◌∙◌}
use mathlib.Core.List.{List, [], ◌∷◌, ◌++◌}
use native.Mathlib.Nat.{pow-suc}
use native.Mathlib.Numerals.{add-one}
use native.Mathlib.Omega.{arith}
use lib.ListN.{length, get_or, take, drop}
use lib.Seq.{get_or-drop, drop-cons}
use Rattle.body.specs.Bytes.{bytes_of, value_at, Bytes}

-- a number of four bytes, as code reads it
pub value_four : (b : List ℕ) (k : ℕ)
    → value_at 4 b k ≡ get_or b k 0 + 256 * (get_or b (k + 1) 0 + 256 * (get_or b (k + 2) 0 + 256 * get_or b (k + 3) 0))
unfolding value_at
value_four b k =
    let two : k + 1 + 1 ≡ k + 2 = omega arith in
    let three : k + 2 + 1 ≡ k + 3 = omega arith in
    rw (two, three) (omega arith)

pub length_bytes : (width n : ℕ) → length (bytes_of width n) ≡ width
unfolding bytes_of
length_bytes zero n = refl
length_bytes (suc width) n = ap suc (length_bytes width (n / 256))

-- a number stands where it stands in what is left of the list
pub value_drop : (width : ℕ) (b : List ℕ) (k j : ℕ) → value_at width b (k + j) ≡ value_at width (drop k b) j
unfolding value_at
value_drop zero b k j = refl
value_drop (suc width) b k j =
    let e : k + j + 1 ≡ k + (j + 1) = omega arith in
    ap₂ (λ (x y : ℕ). x + 256 * y) (sym (get_or-drop k b j 0)) (ap (value_at width b) e ∙ value_drop width b k (j + 1))

-- the bytes of a number stand for it
pub value_bytes : (width n : ℕ) (rest : List ℕ) → n < 256 ^ width → value_at width (bytes_of width n ++ rest) 0 ≡ n
unfolding value_at bytes_of
value_bytes zero n rest h = omega arith
value_bytes (suc width) n rest h =
    let p : 256 ^ suc width ≡ 256 ^ width * 256 = pow-suc 256 width in
    let tail : List ℕ = bytes_of width (n / 256) ++ rest in
    let q : value_at width (n % 256 ∷ tail) 1 ≡ n / 256 =
    value_drop width (n % 256 ∷ tail) 1 0 ∙ value_bytes width (n / 256) rest (omega arith) in
    omega arith

low : (x y : ℕ) → x < 256 → (x + 256 * y) % 256 ≡ x
low x y h = omega arith

high : (x y : ℕ) → x < 256 → (x + 256 * y) / 256 ≡ y
high x y h = omega arith

-- the bytes that a number was read from are its bytes
pub bytes_value : (width : ℕ) (b : List ℕ) (k : ℕ) → Bytes b → k + width ≤ length b → bytes_of width (value_at width b k) ≡ take width (drop k b)
unfolding value_at bytes_of
bytes_value zero b k w h = refl
bytes_value (suc width) b k w h =
    let l : k < length b = omega arith in
    rw (low (get_or b k 0) (value_at width b (k + 1)) (w k), high (get_or b k 0) (value_at width b (k + 1)) (w k), drop-cons b k 0 l, ← add-one k)
    (ap (λ (r : List ℕ). get_or b k 0 ∷ r) (bytes_value width b (k + 1) w (omega arith)))

-- parts of bytes are bytes
pub bytes_take : (n : ℕ) (l : List ℕ) → Bytes l → Bytes (take n l)
bytes_take zero l w k = omega arith
bytes_take (suc n) [] w k = w k
bytes_take (suc n) (x ∷ l) w zero = w 0
bytes_take (suc n) (x ∷ l) w (suc k) = bytes_take n l (λ j. w (suc j)) k

pub bytes_drop : (n : ℕ) (l : List ℕ) → Bytes l → Bytes (drop n l)
bytes_drop n l w k = rw (get_or-drop n l k 0) (w (n + k))
