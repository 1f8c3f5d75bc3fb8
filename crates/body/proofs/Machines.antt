-- The one law of machines: the entries of a tree push the tree's meaning. Assumes nothing.
use mathlib.Core.Path.{◌≡◌, refl, ◌∙◌}
use mathlib.Core.List.{List, [], ◌∷◌, ◌++◌, append_assoc}
use Rattle.rules.specs.Pattern.{Pattern, event, pair, within}
use Rattle.body.specs.declared.Entry.{Entry}
use Rattle.body.specs.declared.Entry.TheVariants.{Pair, Within}
use Rattle.body.specs.Postfix.{postfix}
use Rattle.body.specs.inner.Machine.{Machine, step, run, eval}

module _ (M : Machine) where
  pub run_postfix : (e : Pattern) (rest : List Entry) (st : List M.X) (g : M.G)
      → run M (postfix e ++ rest) st g ≡ run M rest ((eval M e g).0 ∷ st) (eval M e g).1
  unfolding run step eval postfix
  run_postfix (event n) rest st g = refl
  run_postfix (pair op x y) rest st g =
      rw (append_assoc (postfix x) (postfix y ++ (Pair op ∷ [])) rest, append_assoc (postfix y) (Pair op ∷ []) rest)
      (run_postfix x (postfix y ++ (Pair op ∷ rest)) st g
      ∙ run_postfix y (Pair op ∷ rest) ((eval M x g).0 ∷ st) (eval M x g).1)
  run_postfix (within x n) rest st g =
      rw (append_assoc (postfix x) (Within n ∷ []) rest) (run_postfix x (Within n ∷ rest) st g)
