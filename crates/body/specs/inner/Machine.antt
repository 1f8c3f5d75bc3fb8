-- A stack machine over entries, with a state that each entry may change, and the same meaning given to a tree: every walk over a
-- body (its room, its rows, a tick) is one of these. Assumes nothing: these are definitions.
use Rattle.std.specs.Prelude.{ℕ, List, [], ◌∷◌}
use Rattle.rules.specs.declared.Op.{Op}
use Rattle.rules.specs.Pattern.{Pattern, event, pair, within}
use Rattle.body.specs.declared.Entry.{Entry}
use Rattle.body.specs.declared.Entry.TheVariants.{Letter, Pair, Within, Wrong}

-- what stands on the stack, the state, and what each kind of entry makes of them
pub record Machine : Type 1 where
  pub X : Type 0
  pub G : Type 0
  pub on_letter : ℕ → G → X × G
  pub on_pair : Op → X → X → G → X × G
  pub on_within : ℕ → X → G → X × G

module _ (M : Machine) where
  -- one entry; the top of the stack stands first, and an operator that lacks an operand leaves all as it is
  unfoldable pub step : Entry → List M.X → M.G → List M.X × M.G
  step (Letter n) st g = ((M.on_letter n g).0 ∷ st, (M.on_letter n g).1)
  step (Pair op) [] g = ([], g)
  step (Pair op) (y ∷ []) g = (y ∷ [], g)
  step (Pair op) (y ∷ x ∷ st) g = ((M.on_pair op x y g).0 ∷ st, (M.on_pair op x y g).1)
  step (Within n) [] g = ([], g)
  step (Within n) (x ∷ st) g = ((M.on_within n x g).0 ∷ st, (M.on_within n x g).1)
  step Wrong st g = (st, g)

  -- all entries, one after the other
  unfoldable pub run : List Entry → List M.X → M.G → List M.X × M.G
  run [] st g = (st, g)
  run (s ∷ ss) st g = run ss (step s st g).0 (step s st g).1

  -- the same on a tree, operands first
  unfoldable pub eval : Pattern → M.G → M.X × M.G
  eval (event n) g = M.on_letter n g
  eval (pair op x y) g =
      let a : M.X × M.G = eval x g in
      let b : M.X × M.G = eval y a.1 in
      M.on_pair op a.0 b.0 b.1
  eval (within x n) g =
      let a : M.X × M.G = eval x g in
      M.on_within n a.0 a.1
