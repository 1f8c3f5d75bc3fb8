-- Entries written one after another, and what is copied. Assumes nothing.
use Rattle.std.proofs.Common.{◌≡◌, ℕ, suc, ◌+◌, ◌-◌, ◌*◌, ◌/◌, ◌%◌, ◌^◌, ◌≤◌, List, [], ◌∷◌, ◌++◌, length, take, drop, set, w32, ap₂, sym, refl, ap, ◌∙◌, append_assoc, append-nil, add-zero, add-suc, suc-add, arith}
use borrow.Rule.Slice.PartMut.{put_mid, Post-is}
use lib.ListN.{length-set}
use lib.Seq.{sets, sets-eq, set_out, length-sets}
use Rattle.std.specs.Int.{to_le_bytes}
use Rattle.rules.specs.declared.Op.{Op}
use Rattle.rules.specs.Limits.{argument_bytes}
use Rattle.rules.specs.Pattern.{Pattern, event, pair, within, size}
use Rattle.body.specs.Bytes.{bytes_of}
use Rattle.body.proofs.Bytes.{length_bytes}
use Rattle.body.specs.declared.Entry.{Entry}
use Rattle.body.specs.declared.Entry.TheVariants.{Letter, Pair, Within}
use Rattle.body.specs.Entry.{entry_bytes, entries_bytes}
use Rattle.body.specs.Postfix.{postfix, encode}
use Rattle.body.proofs.Bodies.{length_encode}
use Rattle.text.specs.inner.Written.{Written, entry_length}
use Rattle.text.specs.inner.Helpers.{Rest, by, up_to, join, rest_encode, rest_size}

-- a run of stores past the end changes nothing
sets_out : (l : List ℕ) (i : ℕ) (vs : List ℕ) → length l ≤ i → sets l i vs ≡ l
sets_out l i [] h = refl
sets_out l i (a ∷ vs) h = rw (set_out l i a h) (sets_out l (suc i) vs (omega arith))

pub entry_out : (d : List ℕ) (at op : ℕ) (bytes : List ℕ) → length d ≤ at → d ≡ sets d at (op ∷ bytes)
entry_out d at op bytes h = sym (sets_out d at (op ∷ bytes) h)

-- the four bytes of a number, and an entry stored as its op and then those
bytes_four : (n : ℕ) → to_le_bytes w32 n ≡ bytes_of argument_bytes n
unfolding bytes_of
bytes_four n =
    let two : n / 256 ^ 2 % 256 ≡ n / 256 / 256 % 256 = omega arith in
    let three : n / 256 ^ 3 % 256 ≡ n / 256 / 256 / 256 % 256 = omega arith in
    ap₂ (λ (x y : ℕ). n % 256 ∷ n / 256 % 256 ∷ x ∷ y ∷ []) two three

pub entry_put : (d part : List ℕ) (at op n : ℕ) → at + entry_length ≤ length d → part ≡ to_le_bytes w32 n
    → put_mid (at + 1) (at + 5 - (at + 1)) (set d at op) part ≡ sets d at (op ∷ bytes_of argument_bytes n)
entry_put d part at op n h e =
    let start : at + 1 ≡ suc at = omega arith in
    let end : at + 5 ≡ suc at + length (bytes_of argument_bytes n) = omega (arith, four) in
    ap₂ (λ (x y : List ℕ). take (at + 1) l ++ (x ++ y)) (e ∙ bytes_four n) (Post-is (at + 1) (at + 5) l (omega arith))
    ∙ ap₂ (λ (i j : ℕ). take i l ++ (bytes_of argument_bytes n ++ drop j l)) start end
    ∙ sym (append_assoc (take (suc at) l) (bytes_of argument_bytes n) (drop (suc at + length (bytes_of argument_bytes n)) l))
    ∙ sym (sets-eq (bytes_of argument_bytes n) l (suc at) (omega (arith, four, length-set d at op)))
  where
    l : List ℕ
    l = set d at op

    four : length (bytes_of argument_bytes n) ≡ 4
    four = length_bytes argument_bytes n

-- two runs, one after the other
sets_append : (l : List ℕ) (i : ℕ) (vs ws : List ℕ) → sets l i (vs ++ ws) ≡ sets (sets l i vs) (i + length vs) ws
sets_append l i [] ws = rw add-zero
sets_append l i (a ∷ vs) ws =
    sets_append (set l i a) (suc i) vs ws
    ∙ ap (λ (k : ℕ). sets (sets (set l i a) (suc i) vs) k ws) (suc-add i (length vs) ∙ sym (add-suc i (length vs)))

entries_append : (width : ℕ) (ss ts : List Entry) → entries_bytes width (ss ++ ts) ≡ entries_bytes width ss ++ entries_bytes width ts
unfolding entries_bytes
entries_append width [] ts = refl
entries_append width (s ∷ ss) ts =
    ap (λ (l : List ℕ). entry_bytes width s ++ l) (entries_append width ss ts)
    ∙ sym (append_assoc (entry_bytes width s) (entries_bytes width ss) (entries_bytes width ts))

entries_one : (width : ℕ) (s : Entry) → entries_bytes width (s ∷ []) ≡ entry_bytes width s
unfolding entries_bytes
entries_one width s = append-nil (entry_bytes width s)

module _ (width : ℕ) where
  pub encode_event : (n : ℕ) → encode width (event n) ≡ entry_bytes width (Letter n)
  unfolding encode postfix
  encode_event n = entries_one width (Letter n)

  pub encode_pair : (op : Op) (x y : Pattern) → encode width (pair op x y) ≡ encode width x ++ (encode width y ++ entry_bytes width (Pair op))
  unfolding encode postfix
  encode_pair op x y =
      entries_append width (postfix x) (postfix y ++ (Pair op ∷ []))
      ∙ ap (λ (l : List ℕ). entries_bytes width (postfix x) ++ l)
      (entries_append width (postfix y) (Pair op ∷ []) ∙ ap (λ (l : List ℕ). entries_bytes width (postfix y) ++ l) (entries_one width (Pair op)))

  pub encode_within : (x : Pattern) (n : ℕ) → encode width (within x n) ≡ encode width x ++ entry_bytes width (Within n)
  unfolding encode postfix
  encode_within x n =
      entries_append width (postfix x) (Within n ∷ [])
      ∙ ap (λ (l : List ℕ). entries_bytes width (postfix x) ++ l) (entries_one width (Within n))

pub encode_join : (x : Pattern) (r : Rest) → encode argument_bytes (join x r) ≡ encode argument_bytes x ++ rest_encode r
encode_join x (by op y) = encode_pair argument_bytes op x y
encode_join x (up_to n) = encode_within argument_bytes x n

pub size_join : (x : Pattern) (r : Rest) → size (join x r) ≡ size x + rest_size r
unfolding size
size_join x (by op y) = omega arith
size_join x (up_to n) = refl

-- the entries of a pattern, and then further bytes
pub written_after : (d d₁ d₂ : List ℕ) (n m : ℕ) (x : Pattern) (bytes : List ℕ) → m ≡ n + size x
    → Written d d₁ n (encode argument_bytes x) → Written d₁ d₂ m bytes → Written d d₂ n (encode argument_bytes x ++ bytes)
written_after d d₁ d₂ n m x bytes count one two len =
    two (ap length (one len) ∙ length-sets d (n * entry_length) (encode argument_bytes x) ∙ len)
    ∙ ap (λ (l : List ℕ). sets l (m * entry_length) bytes) (one len)
    ∙ ap (λ (k : ℕ). sets (sets d (n * entry_length) (encode argument_bytes x)) k bytes) (omega (arith, length_encode argument_bytes x))
    ∙ sym (sets_append d (n * entry_length) (encode argument_bytes x) bytes)
