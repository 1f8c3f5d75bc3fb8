-- Entries and trees: the entries of a tree pass the check, and any entries either are those of one tree or have a lowest one that
-- breaks a rule. By induction on the entries, with the trees found so far. Assumes nothing.
use Rattle.std.specs.Prelude.{None, Option, Some}
use Prim.Native.Nat.{ℕ, suc, ◌+◌, ◌-◌, ◌≤◌}
use mathlib.Core.Path.{◌≡◌, refl, sym, ap, subst, ◌∙◌}
use mathlib.Core.Logic.{inl, inr, ⊎_elim}
use mathlib.Core.List.{List, [], ◌∷◌, ◌++◌, append_assoc, append-nil}
use native.Mathlib.Omega.{arith}
use lib.ListN.{length, get_or, drop, length-append, take-append-drop, drop_of_length-le}
use lib.Seq.{take_at, get_or_at, drop-cons, length-take-le}
use borrow.Author.Tests.{le-leb, lt-leb, ne_eqb}
use Rattle.rules.proofs.Impossible.{impossible}
use Rattle.rules.specs.declared.Op.{Op}
use Rattle.rules.specs.Lists.{All}
use Rattle.rules.specs.Pattern.{Pattern, event, pair, within, size, Proper}
use Rattle.body.specs.declared.Entry.{Entry}
use Rattle.body.specs.declared.Entry.TheVariants.{Letter, Pair, Within, Wrong}
use Rattle.body.specs.Postfix.{postfix}
use Rattle.body.specs.Check.{depth_of, scan}
use Rattle.body.specs.Claim.{forest, Breaks, Lowest}
use Rattle.body.proofs.Entries.{Fits}

pub size_pos : (e : Pattern) → 1 ≤ size e
unfolding size
size_pos (event n) = omega arith
size_pos (pair op x y) = omega arith
size_pos (within x n) = omega arith

pub length_postfix : (e : Pattern) → length (postfix e) ≡ size e
unfolding postfix size
length_postfix (event n) = refl
length_postfix (pair op x y) =
    length-append (postfix x) (postfix y ++ (Pair op ∷ []))
    ∙ omega (arith, length-append (postfix y) (Pair op ∷ []), length_postfix x, length_postfix y)
length_postfix (within x n) = length-append (postfix x) (Within n ∷ []) ∙ omega (arith, length_postfix x)

module _ (P : Entry → Type 0) where
  all_append : (ss ts : List Entry) → All P ss → All P ts → All P (ss ++ ts)
  all_append [] ts h k = k
  all_append (s ∷ ss) ts h k = (h.0, all_append ss ts h.1 k)

  all_left : (ss ts : List Entry) → All P (ss ++ ts) → All P ss
  all_left [] ts h = tt
  all_left (s ∷ ss) ts h = (h.0, all_left ss ts h.1)

  all_right : (ss ts : List Entry) → All P (ss ++ ts) → All P ts
  all_right [] ts h = h
  all_right (s ∷ ss) ts h = all_right ss ts h.1

-- the entries of a proper tree fit, and break no rule by themselves
pub proper_fits : (bound : ℕ) (e : Pattern) → Proper bound e → All (Fits ⊥ bound) (postfix e)
unfolding postfix
proper_fits bound (event n) h = (h, tt)
proper_fits bound (pair op x y) h =
    all_append (Fits ⊥ bound) (postfix x) (postfix y ++ (Pair op ∷ [])) (proper_fits bound x h.0)
    (all_append (Fits ⊥ bound) (postfix y) (Pair op ∷ []) (proper_fits bound y h.1) (tt, tt))
proper_fits bound (within x n) h = all_append (Fits ⊥ bound) (postfix x) (Within n ∷ []) (proper_fits bound x h.0) (h.1, tt)

-- a tree whose entries fit is proper
pub fits_proper : (wrong : Type 0) (bound : ℕ) (e : Pattern) → All (Fits wrong bound) (postfix e) → Proper bound e
unfolding postfix
fits_proper wrong bound (event n) h = h.0
fits_proper wrong bound (pair op x y) h =
    let t = all_right (Fits wrong bound) (postfix x) (postfix y ++ (Pair op ∷ [])) h in (
      fits_proper wrong bound x (all_left (Fits wrong bound) (postfix x) (postfix y ++ (Pair op ∷ [])) h),
      fits_proper wrong bound y (all_left (Fits wrong bound) (postfix y) (Pair op ∷ []) t),
    )
fits_proper wrong bound (within x n) h = (
  fits_proper wrong bound x (all_left (Fits wrong bound) (postfix x) (Within n ∷ []) h),
  (all_right (Fits wrong bound) (postfix x) (Within n ∷ []) h).0,
)

-- an operator that finds its operands
scan_pair : (op : Op) (ss : List Entry) (i d : ℕ) → scan (Pair op ∷ ss) i (d + 1 + 1) ≡ scan ss (i + 1) (d + 1)
unfolding scan depth_of
scan_pair op ss i d = rw (le-leb 2 (d + 1 + 1) (omega arith)) (ap (scan ss (i + 1)) (omega arith))

scan_within : (n : ℕ) (ss : List Entry) (i d : ℕ) → scan (Within n ∷ ss) i (d + 1) ≡ scan ss (i + 1) (d + 1)
unfolding scan depth_of
scan_within n ss i d = rw (le-leb 1 (d + 1) (omega arith)) refl

-- the entries of a tree leave one tree more
pub scan_postfix : (e : Pattern) (rest : List Entry) (i d : ℕ) → scan (postfix e ++ rest) i d ≡ scan rest (i + size e) (d + 1)
unfolding postfix size
scan_postfix (event n) rest i d = unfold scan depth_of in refl
scan_postfix (pair op x y) rest i d =
    rw (append_assoc (postfix x) (postfix y ++ (Pair op ∷ [])) rest, append_assoc (postfix y) (Pair op ∷ []) rest)
    (scan_postfix x (postfix y ++ (Pair op ∷ rest)) i d
    ∙ scan_postfix y (Pair op ∷ rest) (i + size x) (d + 1)
    ∙ scan_pair op rest (i + size x + size y) d
    ∙ ap (λ (j : ℕ). scan rest j (d + 1)) (omega arith))
scan_postfix (within x n) rest i d =
    rw (append_assoc (postfix x) (Within n ∷ []) rest)
    (scan_postfix x (Within n ∷ rest) i d
    ∙ scan_within n rest (i + size x) d
    ∙ ap (λ (j : ℕ). scan rest j (d + 1)) (omega arith))

-- what the check's answer says of the entries
abbrev pub Outcome : List Entry → Option ℕ → Type 0
Outcome es None = (e : Pattern) × (es ≡ postfix e)
Outcome es (Some i) = Lowest es i

-- the entry at i breaks a rule
lowest_broken : (s : Entry) (ss : List Entry) (st : List Pattern) (i : ℕ) → i ≡ length (forest st) → Breaks s (length st)
    → Lowest (forest st ++ (s ∷ ss)) i
lowest_broken s ss st i p h = record {
  trees = st;
  whole = take_at (forest st) (s ∷ ss) i (sym p);
  broken = inl (simp length-append (omega arith), rw (get_or_at (forest st) s ss Wrong i (sym p)) h);
}

-- several trees are left
several_left : (st : List Pattern) (i : ℕ) → i ≡ length (forest st) → 2 ≤ length st → Lowest (forest st ++ []) i
several_left st i p h = record {
  trees = st;
  whole = take_at (forest st) [] i (sym p);
  broken = inr (simp length-append (omega arith), h);
}

-- an entry passed is the last of the trees found so far
module _ (s : Entry) (ss : List Entry) (es es' : List Entry) (p : es' ≡ es ++ (s ∷ [])) where
  passed : (o : Option ℕ) → Outcome (es' ++ ss) o → Outcome (es ++ (s ∷ ss)) o
  passed o h = rw (p, append_assoc es (s ∷ []) ss) at h

  next_place : (i : ℕ) → i ≡ length es → i + 1 ≡ length es'
  next_place i q = rw (p, length-append es (s ∷ [])) (omega arith)

pub scan_outcome : (ss : List Entry) (st : List Pattern) (i : ℕ) → i ≡ length (forest st) → 1 ≤ length st + length ss
    → Outcome (forest st ++ ss) (scan ss i (length st))
unfolding scan depth_of
scan_outcome [] [] i p h = absurd (omega arith)
scan_outcome [] (e ∷ []) i p h = (e, unfold forest in append-nil (postfix e))
scan_outcome [] (e ∷ f ∷ st) i p h =
    rw (ne_eqb (length (e ∷ f ∷ st)) 1 (omega arith)) (several_left (e ∷ f ∷ st) i p (omega arith))
scan_outcome (Letter n ∷ ss) st i p h =
    let g : forest (event n ∷ st) ≡ forest st ++ (Letter n ∷ []) = unfold forest postfix in refl in
    let d : length st + 1 ≡ length (event n ∷ st) = omega arith in
    rw d (passed (Letter n) ss (forest st) (forest (event n ∷ st)) g (scan ss (i + 1) (length (event n ∷ st)))
    (scan_outcome ss (event n ∷ st) (i + 1) (next_place (Letter n) ss (forest st) (forest (event n ∷ st)) g i p) (omega arith)))
scan_outcome (Pair op ∷ ss) [] i p h = lowest_broken (Pair op) ss [] i p (omega arith)
scan_outcome (Pair op ∷ ss) (y ∷ []) i p h = lowest_broken (Pair op) ss (y ∷ []) i p (omega arith)
scan_outcome (Pair op ∷ ss) (y ∷ x ∷ st) i p h =
    let t : List Pattern = y ∷ x ∷ st in
    let t' : List Pattern = pair op x y ∷ st in
    let g : forest t' ≡ forest t ++ (Pair op ∷ []) = unfold forest postfix in simp append_assoc in
    let d : length t - 1 ≡ length t' = omega arith in
    rw (le-leb 2 (length t) (omega arith), d) (passed (Pair op) ss (forest t) (forest t') g (scan ss (i + 1) (length t'))
    (scan_outcome ss t' (i + 1) (next_place (Pair op) ss (forest t) (forest t') g i p) (omega arith)))
scan_outcome (Within n ∷ ss) [] i p h = lowest_broken (Within n) ss [] i p (omega arith)
scan_outcome (Within n ∷ ss) (x ∷ st) i p h =
    let t : List Pattern = x ∷ st in
    let t' : List Pattern = within x n ∷ st in
    let g : forest t' ≡ forest t ++ (Within n ∷ []) = unfold forest postfix in simp append_assoc in
    rw (le-leb 1 (length t) (omega arith)) (passed (Within n) ss (forest t) (forest t') g (scan ss (i + 1) (length t'))
    (scan_outcome ss t' (i + 1) (next_place (Within n) ss (forest t) (forest t') g i p) (omega arith)))
scan_outcome (Wrong ∷ ss) st i p h = lowest_broken Wrong ss st i p tt

-- entries that pass are those of a tree
pub scan_tree : (es : List Entry) → scan es 0 0 ≡ None → (e : Pattern) × (es ≡ postfix e)
unfolding scan forest
scan_tree [] p = impossible cc
scan_tree (s ∷ ss) p = subst (Outcome (s ∷ ss)) p (scan_outcome (s ∷ ss) [] 0 refl (omega arith))

pub lowest_le : (es : List Entry) (i : ℕ) → Lowest es i → i ≤ length es
lowest_le es i l = ⊎_elim (λ h. omega (arith, h.0)) (λ h. omega (arith, h.0)) l.broken

-- whole trees pass
scan_forest : (st : List Pattern) (rest : List Entry) → scan (forest st ++ rest) 0 0 ≡ scan rest (length (forest st)) (length st)
unfolding forest
scan_forest [] rest = refl
scan_forest (e ∷ st) rest =
    rw (append_assoc (forest st) (postfix e) rest, length-append (forest st) (postfix e), length_postfix e)
    (scan_forest st (postfix e ++ rest)
    ∙ scan_postfix e rest (length (forest st)) (length st)
    ∙ ap (scan rest (length (forest st) + size e)) (omega arith))

-- and the entry after them is refused if it breaks a rule
scan_breaks : (s : Entry) (ss : List Entry) (i d : ℕ) → Breaks s d → scan (s ∷ ss) i d ≡ Some i
unfolding scan depth_of
scan_breaks (Letter n) ss i d h = absurd h
scan_breaks (Pair op) ss i d h = rw (lt-leb 2 d h)
scan_breaks (Within n) ss i d h = rw (lt-leb 1 d h)
scan_breaks Wrong ss i d h = refl

scan_several : (i d : ℕ) → 2 ≤ d → scan [] i d ≡ Some i
unfolding scan
scan_several i d h = rw (ne_eqb d 1 (omega arith))

-- the check finds the lowest entry that breaks a rule, which there is at most one of
pub lowest_scan : (es : List Entry) (i : ℕ) → Lowest es i → scan es 0 0 ≡ Some i
lowest_scan es i l =
    let d : ℕ = length l.trees in
    let place : length (forest l.trees) ≡ i = ap length (sym l.whole) ∙ length-take-le i es (lowest_le es i l) in
    let split : es ≡ forest l.trees ++ drop i es = sym (take-append-drop i es) ∙ ap (λ (p : List Entry). p ++ drop i es) l.whole in
    let rest : scan (drop i es) i d ≡ Some i =
    ⊎_elim
    (λ h. rw (drop-cons es i Wrong h.0) (scan_breaks (get_or es i Wrong) (drop (suc i) es) i d h.1))
    (λ h. rw (drop_of_length-le es {i = i} (omega (arith, h.0))) (scan_several i d h.1))
    l.broken in
    ap (λ (r : List Entry). scan r 0 0) split
    ∙ scan_forest l.trees (drop i es)
    ∙ ap (λ (j : ℕ). scan (drop i es) j d) place
    ∙ rest
