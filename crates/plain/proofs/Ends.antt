-- The pattern that each entry ends, as a walk over the entries with the trees so far finds it. Assumes nothing.
use mathlib.Core.Path.{◌≡◌, refl, sym, ap, ap₂, ◌∙◌}
use mathlib.Core.List.{List, [], ◌∷◌, ◌++◌, map, append_assoc, append-nil}
use Prim.Native.Nat.{ℕ, ◌+◌, ◌-◌, ◌<◌}
use native.Mathlib.Omega.{arith}
use lib.ListN.{get_or, length, length-append, get_or-append}
use Rattle.rules.specs.declared.Op.{Op}
use Rattle.rules.specs.Pattern.{Pattern, event, pair, within, size}
use Rattle.body.specs.declared.Entry.{Entry}
use Rattle.body.specs.declared.Entry.TheVariants.{Letter, Pair, Within, Wrong}
use Rattle.body.specs.Entry.{entries_by}
use Rattle.body.specs.Postfix.{postfix}
use Rattle.body.proofs.Scan.{left_suc}
use Rattle.plain.specs.Rows.{parts}

-- the patterns that entries end, with trees before them, the last first
unfoldable pub ends : List Entry → List Pattern → List Pattern
ends [] st = []
ends (Letter n ∷ ss) st = event n ∷ ends ss (event n ∷ st)
ends (Pair op ∷ ss) [] = []
ends (Pair op ∷ ss) (y ∷ []) = []
ends (Pair op ∷ ss) (y ∷ x ∷ st) = pair op x y ∷ ends ss (pair op x y ∷ st)
ends (Within n ∷ ss) [] = []
ends (Within n ∷ ss) (x ∷ st) = within x n ∷ ends ss (within x n ∷ st)
ends (Wrong ∷ ss) st = []

-- the entries of a pattern end its parts
pub ends_postfix : (e : Pattern) (rest : List Entry) (st : List Pattern) → ends (postfix e ++ rest) st ≡ parts e ++ ends rest (e ∷ st)
unfolding postfix parts ends
ends_postfix (event n) rest st = refl
ends_postfix (pair op x y) rest st =
    rw (append_assoc (postfix x) (postfix y ++ (Pair op ∷ [])) rest, append_assoc (postfix y) (Pair op ∷ []) rest)
    (ends_postfix x (postfix y ++ (Pair op ∷ rest)) st
    ∙ ap (λ (l : List Pattern). parts x ++ l) (ends_postfix y (Pair op ∷ rest) (x ∷ st))
    ∙ simp append_assoc)
ends_postfix (within x n) rest st =
    rw (append_assoc (postfix x) (Within n ∷ []) rest)
    (ends_postfix x (Within n ∷ rest) st ∙ simp append_assoc)

pub ends_whole : (e : Pattern) → ends (postfix e) [] ≡ parts e
ends_whole e = ap (λ (l : List Entry). ends l []) (sym (append-nil (postfix e))) ∙ ends_postfix e [] [] ∙ unfold ends in append-nil (parts e)

pub length_parts : (e : Pattern) → length (parts e) ≡ size e
unfolding parts size
length_parts (event n) = refl
length_parts (pair op x y) =
    length-append (parts x) (parts y ++ (pair op x y ∷ []))
    ∙ omega (arith, length-append (parts y) (pair op x y ∷ []), length_parts x, length_parts y)
length_parts (within x n) = length-append (parts x) (within x n ∷ []) ∙ omega (arith, length_parts x)

-- one turn of a walk
module _ (f : ℕ → Entry) (n i : ℕ) (h : i < n) where
  abbrev left : List Entry
  left = entries_by f (i + 1) (n - (i + 1))

  turned : (s : Entry) (st : List Pattern) → f i ≡ s → ends (entries_by f i (n - i)) st ≡ ends (s ∷ left) st
  unfolding entries_by
  turned s st e = rw (left_suc n i h, e)

  pub ends_letter : (a : ℕ) (st : List Pattern) → f i ≡ Letter a → ends (entries_by f i (n - i)) st ≡ event a ∷ ends left (event a ∷ st)
  ends_letter a st e = turned (Letter a) st e ∙ unfold ends in refl

  pub ends_pair : (op : Op) (x y : Pattern) (st : List Pattern) → f i ≡ Pair op
      → ends (entries_by f i (n - i)) (y ∷ x ∷ st) ≡ pair op x y ∷ ends left (pair op x y ∷ st)
  ends_pair op x y st e = turned (Pair op) (y ∷ x ∷ st) e ∙ unfold ends in refl

  pub ends_within : (a : ℕ) (x : Pattern) (st : List Pattern) → f i ≡ Within a
      → ends (entries_by f i (n - i)) (x ∷ st) ≡ within x a ∷ ends left (within x a ∷ st)
  ends_within a x st e = turned (Within a) (x ∷ st) e ∙ unfold ends in refl

-- each entry that ends a tree is below i
abbrev pub Below : ℕ → List ℕ → Type 0
Below i [] = Unit {0}
Below i (k ∷ ks) = (k < i) × Below i ks

pub below_more : (i : ℕ) (ks : List ℕ) → Below i ks → Below (i + 1) ks
below_more i [] h = tt
below_more i (k ∷ ks) h = (omega (arith, h.0), below_more i ks h.1)

-- the trees that the entries of ks end
abbrev pub patterns : List Pattern → List ℕ → List Pattern
patterns done = map (λ k. get_or done k (event 0))

-- one pattern more leaves those before it
pub patterns_more : (done : List Pattern) (q : Pattern) (ks : List ℕ) → Below (length done) ks → patterns (done ++ (q ∷ [])) ks ≡ patterns done ks
patterns_more done q [] h = refl
patterns_more done q (k ∷ ks) h =
    ap₂ (λ (p : Pattern) (l : List Pattern). p ∷ l) (get_or-append done (q ∷ []) (event 0) k h.0) (patterns_more done q ks h.1)
