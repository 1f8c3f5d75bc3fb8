-- The ways through `write_tree`: the last entry says what tree it ends, and where its operands end. Assumes nothing.
use Rattle.std.proofs.Common.{◌≡◌, ℕ, zero, suc, ◌+◌, ◌-◌, min, ◌<◌, List, [], ◌∷◌, ◌++◌, length, sym, refl, ap, ◌∙◌, subst, append_assoc, arith, length-append}
use Rattle.rules.proofs.Impossible.{impossible}
use Rattle.rules.specs.declared.Op.{Op}
use Rattle.rules.specs.Limits.{letters, argument_bytes}
use Rattle.rules.specs.Pattern.{Pattern, event, pair, within, Proper}
use Rattle.body.specs.declared.Entry.{Entry}
use Rattle.body.specs.declared.Entry.TheVariants.{Letter, Pair, Within, Wrong}
use Rattle.body.specs.Entry.{entries_by, entry_at}
use Rattle.body.specs.Postfix.{postfix}
use Rattle.body.proofs.Trees.{size_pos, length_postfix}
use Rattle.body.proofs.Bodies.{length_by}
use Rattle.decimal.specs.Decimal.{decimal}
use Rattle.decimal.specs.Before.{Before}
use Rattle.decimal.proofs.Written.{before_it}
use Rattle.text.specs.Render.{numbers, most_printed, letter_byte, op_byte, render}
use Rattle.text.specs.inner.Helpers.{Ends, TreeReady, IsTree, TreeWritten}

-- entries by index, where they are a list: its first part, its last entry, and their number
module _ (f : ℕ → Entry) where
  first_part : (i n : ℕ) (es ss : List Entry) → entries_by f i n ≡ es ++ ss → entries_by f i (length es) ≡ es
  unfolding entries_by
  first_part i n [] ss q = refl
  first_part i zero (s ∷ es) ss q = impossible cc
  first_part i (suc n) (s ∷ es) ss q =
      let a : f i ≡ s = cc in
      let b : entries_by f (i + 1) n ≡ es ++ ss = cc in
      ap (λ (t : Entry). t ∷ entries_by f (i + 1) (length es)) a ∙ ap (λ (l : List Entry). s ∷ l) (first_part (i + 1) n es ss b)

  last_entry : (i n : ℕ) (es : List Entry) (s : Entry) → entries_by f i n ≡ es ++ (s ∷ []) → f (i + length es) ≡ s
  unfolding entries_by
  last_entry i zero [] s q = impossible cc
  last_entry i (suc n) [] s q = let a : f i ≡ s = cc in ap f (omega arith) ∙ a
  last_entry i zero (t ∷ es) s q = impossible cc
  last_entry i (suc n) (t ∷ es) s q =
      let b : entries_by f (i + 1) n ≡ es ++ (s ∷ []) = cc in
      ap f (omega arith) ∙ last_entry (i + 1) n es s b

  count_entries : (i n : ℕ) (es : List Entry) → entries_by f i n ≡ es → n ≡ length es
  count_entries i n es q = sym (length_by f i n) ∙ ap length q

  last_of : (k : ℕ) (es : List Entry) (s : Entry) → entries_by f 0 k ≡ es ++ (s ∷ [])
      → (k ≡ length es + 1) × (f (k - 1) ≡ s) × (entries_by f 0 (k - 1) ≡ es)
  last_of k es s q =
      let m : k ≡ length es + 1 = omega (arith, count_entries 0 k _ q, length-append es (s ∷ [])) in
      let l : length es ≡ k - 1 = omega arith in
      let z : k - 1 ≡ 0 + length es = omega arith in
      (m, ap f z ∙ last_entry 0 k es s q, ap (entries_by f 0) (sym l) ∙ first_part 0 k es (s ∷ []) q)

regroup : (a b c d : List Entry) → a ++ (b ++ (c ++ d)) ≡ a ++ b ++ c ++ d
regroup a b c d = sym (append_assoc a b (c ++ d)) ∙ sym (append_assoc (a ++ b) c d)

-- what the last of k entries says of the tree that it ends, after others
record EndsLetter (k : ℕ) (others : List Entry) (e : Pattern) (n : ℕ) : Type 0 where
  tree : e ≡ event n
  count : k ≡ length others + 1

record EndsPair (b : List ℕ) (k : ℕ) (others : List Entry) (e : Pattern) (op : Op) : Type 0 where
  left : Pattern
  right : Pattern
  tree : e ≡ pair op left right
  ends : Ends b (k - 1) (others ++ postfix left) right
  starts : Ends b (length (others ++ postfix left)) others left
  count : length (others ++ postfix left) < k

record EndsWithin (b : List ℕ) (k : ℕ) (others : List Entry) (e : Pattern) (n : ℕ) : Type 0 where
  left : Pattern
  tree : e ≡ within left n
  ends : Ends b (k - 1) others left

abbrev EndsBy : List ℕ → ℕ → List Entry → Pattern → Entry → Type 0
EndsBy b k others e (Letter n) = EndsLetter k others e n
EndsBy b k others e (Pair op) = EndsPair b k others e op
EndsBy b k others e (Within n) = EndsWithin b k others e n
EndsBy b k others e Wrong = ⊥

ends_by : (b : List ℕ) (k : ℕ) (others : List Entry) (e : Pattern) → Ends b k others e → EndsBy b k others e (entry_at argument_bytes b (k - 1))
unfolding postfix
ends_by b k others (event n) q =
    let u = last_of (entry_at argument_bytes b) k others (Letter n) q in
    subst (EndsBy b k others (event n)) (sym u.1) (record { tree = refl; count = u.0 })
ends_by b k others (pair op x y) q =
    let split = q ∙ regroup others (postfix x) (postfix y) (Pair op ∷ []) in
    let u = last_of (entry_at argument_bytes b) k (others ++ postfix x ++ postfix y) (Pair op) split in
    subst (EndsBy b k others (pair op x y)) (sym u.1) (record {
      left = x;
      right = y;
      tree = refl;
      ends = u.2;
      starts = first_part (entry_at argument_bytes b) 0 (k - 1) (others ++ postfix x) (postfix y) u.2;
      count = omega (arith, u.0, length-append (others ++ postfix x) (postfix y));
    })
ends_by b k others (within x n) q =
    let u = last_of (entry_at argument_bytes b) k (others ++ postfix x) (Within n) (q ∙ sym (append_assoc others (postfix x) (Within n ∷ []))) in
    subst (EndsBy b k others (within x n)) (sym u.1) (record { left = x; tree = refl; ends = u.2 })

ends_in : {s : Entry} (b : List ℕ) (k : ℕ) (others : List Entry) (e : Pattern)
    → s ≡ entry_at argument_bytes b (k - 1) → Ends b k others e → EndsBy b k others e s
ends_in b k others e s q = subst (EndsBy b k others e) (sym s) (ends_by b k others e q)

-- no tree ends with an entry that breaks a rule by itself
pub not_wrong : (b : List ℕ) (k : ℕ) → Wrong ≡ entry_at argument_bytes b (k - 1) → TreeReady b k → ⊥
not_wrong b k s r = ends_in b k r.others r.tree s r.ends

-- there is an entry
pub some_entry : (b : List ℕ) (k : ℕ) → TreeReady b k → 0 < k
some_entry b k r =
    let n = count_entries (entry_at argument_bytes b) 0 k _ r.ends in
    omega (arith, length-append r.others (postfix r.tree), length_postfix r.tree, size_pos r.tree)

-- what each write ensures: bytes are written before what was written, and how many are written then
abbrev Counted : List ℕ → List ℕ → List ℕ → Type 0
Counted d d' ws = record { written : Before most_printed d d' ws; counts : length d' ≡ min most_printed (length d + length ws) }

-- one part and another before it
counted_it : (d d₁ d₂ vs ws : List ℕ) → Counted d d₁ ws → Counted d₁ d₂ vs → Counted d d₂ (vs ++ ws)
counted_it d d₁ d₂ vs ws t u = record {
  written = before_it most_printed d d₁ d₂ vs ws t.written u.written;
  counts = omega (arith, t.counts, u.counts, length-append vs ws);
}

-- a bracket, written backwards: `)`, what follows the sign, the sign, the left operand, `(`
bracket : (d d₁ d₂ d₃ d₄ d₅ : List ℕ) (c : ℕ) (vs ws : List ℕ)
    → Counted d d₁ (41 ∷ []) → Counted d₁ d₂ ws → Counted d₂ d₃ (c ∷ []) → Counted d₃ d₄ vs → Counted d₄ d₅ (40 ∷ [])
    → Counted d d₅ (40 ∷ (vs ++ (c ∷ (ws ++ (41 ∷ [])))))
bracket d d₁ d₂ d₃ d₄ d₅ c vs ws t w u v o =
    let operand = counted_it d d₁ d₂ ws (41 ∷ []) t w in
    let sign = counted_it d d₂ d₃ (c ∷ []) (ws ++ (41 ∷ [])) operand u in
    let both = counted_it d d₃ d₄ vs (c ∷ (ws ++ (41 ∷ []))) sign v in
    counted_it d d₄ d₅ (40 ∷ []) (vs ++ (c ∷ (ws ++ (41 ∷ [])))) both o

-- the text of a tree is such a part
text_of : {d d' : List ℕ} {e : Pattern} {others : List Entry} {entry : ℕ} → IsTree d d' e others entry → Counted d d' (render e)
text_of y = record { written = y.text; counts = y.counts }

module _ (b : List ℕ) (k : ℕ) where
  -- a letter
  module _ (n : ℕ) (s : Letter n ≡ entry_at argument_bytes b (k - 1)) where
    pub letter_ready : TreeReady b k → n < letters
    letter_ready r = let p = ends_in b k r.others r.tree s r.ends in subst (Proper numbers) p.tree r.proper

    pub letter_written : (d d' : List ℕ) → Counted d d' (letter_byte n ∷ []) → TreeWritten b k d d' (k - 1)
    letter_written d d' t others e q =
        let p = ends_in b k others e s q in
        rw p.tree (record { first_entry = omega (arith, p.count); text = t.written; counts = t.counts })

  -- an operator
  module _ (op : Op) (s : Pair op ≡ entry_at argument_bytes b (k - 1)) where
    module _ (r : TreeReady b k) where
      parts : EndsPair b k r.others r.tree op
      parts = ends_in b k r.others r.tree s r.ends

      both_proper : Proper numbers parts.left × Proper numbers parts.right
      both_proper = subst (Proper numbers) parts.tree r.proper

      pub right_ready : TreeReady b (k - 1)
      right_ready = record {
        tree = parts.right;
        others = r.others ++ postfix parts.left;
        ends = parts.ends;
        proper = both_proper.1;
      }

      module _ (d d' : List ℕ) (entry : ℕ) (w : TreeWritten b (k - 1) d d' entry) where
        right_tree : IsTree d d' parts.right (r.others ++ postfix parts.left) entry
        right_tree = w (r.others ++ postfix parts.left) parts.right parts.ends

        pub left_falls : entry < k
        left_falls = omega (arith, right_tree.first_entry, parts.count)

        pub left_ready : TreeReady b entry
        left_ready = record {
          tree = parts.left;
          others = r.others;
          ends = rw right_tree.first_entry parts.starts;
          proper = both_proper.0;
        }

    pub pair_written : (d d₁ d₂ d₃ d₄ d₅ : List ℕ) (entry entry₁ : ℕ)
        → Counted d d₁ (41 ∷ []) → TreeWritten b (k - 1) d₁ d₂ entry
        → Counted d₂ d₃ (op_byte op ∷ []) → TreeWritten b entry d₃ d₄ entry₁
        → Counted d₄ d₅ (40 ∷ []) → TreeWritten b k d d₅ entry₁
    pair_written d d₁ d₂ d₃ d₄ d₅ entry entry₁ t w u v o others e q =
        let p = ends_in b k others e s q in
        let y = w (others ++ postfix p.left) p.right p.ends in
        let x = v others p.left (rw y.first_entry p.starts) in
        let all = bracket d d₁ d₂ d₃ d₄ d₅ (op_byte op) (render p.left) (render p.right) t (text_of y) u (text_of x) o in
        rw p.tree (record { first_entry = x.first_entry; text = all.written; counts = all.counts })

  -- a restriction
  module _ (n : ℕ) (s : Within n ≡ entry_at argument_bytes b (k - 1)) where
    module _ (r : TreeReady b k) where
      part : EndsWithin b k r.others r.tree n
      part = ends_in b k r.others r.tree s r.ends

      part_proper : Proper numbers part.left × (n < numbers)
      part_proper = subst (Proper numbers) part.tree r.proper

      pub limited_ready : TreeReady b (k - 1)
      limited_ready = record { tree = part.left; others = r.others; ends = part.ends; proper = part_proper.0 }

    pub within_written : (d d₁ d₂ d₃ d₄ d₅ : List ℕ) (entry : ℕ)
        → Counted d d₁ (41 ∷ []) → Counted d₁ d₂ (decimal n)
        → Counted d₂ d₃ (64 ∷ []) → TreeWritten b (k - 1) d₃ d₄ entry
        → Counted d₄ d₅ (40 ∷ []) → TreeWritten b k d d₅ entry
    within_written d d₁ d₂ d₃ d₄ d₅ entry t w u v o others e q =
        let p = ends_in b k others e s q in
        let x = v others p.left p.ends in
        let all = bracket d d₁ d₂ d₃ d₄ d₅ 64 (render p.left) (decimal n) t w u (text_of x) o in
        rw p.tree (record { first_entry = x.first_entry; text = all.written; counts = all.counts })
