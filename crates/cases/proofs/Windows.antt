-- The cases that speak of windows: the detector's answers are the rules' own, and they compute. Assumes nothing.
use mathlib.Core.Path.{◌≡◌, refl}
use mathlib.Core.Bool.{Bool, true, false, cond}
use mathlib.Core.List.{List, [], ◌∷◌, ◌++◌}
use Prim.Native.Nat.{ℕ, suc, ◌≤◌}
use lib.Dec.{leb, eqb}
use borrow.Author.Tests.{leb-true, eqb-true}
use Rattle.rules.proofs.Impossible.{impossible}
use Rattle.rules.specs.Pattern.{Pattern}
use Rattle.rules.specs.History.{Tick, Rising, next_tick}
use Rattle.detector.specs.Memory.{Memory, fresh}
use Rattle.detector.specs.Step.{answer, next}
use Rattle.detector.specs.Run.{run, run_from}
use Rattle.detector.proofs.History.{rising_snoc, next_tick_snoc}
use Rattle.detector.proofs.Run.{run_snoc}
use Rattle.detector.proofs.Theorem.{right}
use Rattle.cases.specs.Cases.{Seen, SeenAfter}

-- the detector gives these answers from a memory on, at ticks that rise from τ
abbrev Gives : (e : Pattern) → Memory e → ℕ → List Seen → Type 0
Gives e m τ [] = Unit {0}
Gives e m τ (k ∷ l) = (τ ≤ k.0) × (answer e m k.0 k.1 ≡ k.2) × Gives e (next e m k.0 k.1) (suc k.0) l

-- so the rules have these windows
seen_after : (e : Pattern) (h : List Tick) (l : List Seen) → Rising 0 h → Gives e (run e h) (next_tick 0 h) l → SeenAfter e h l
seen_after e h [] r g = tt
seen_after e h (k ∷ l) r g =
    let h' : List Tick = h ++ ((k.0, k.1) ∷ []) in
    let r' : Rising 0 h' = rising_snoc 0 h (k.0, k.1) r g.0 in (
      rw g.1 at (right e h k.0 k.1 r'),
      seen_after e h' l r' (rw (run_snoc e h (k.0, k.1), next_tick_snoc 0 h (k.0, k.1)) g.2),
    )

-- the same as a test that computes
unfoldable pub given : (e : Pattern) → Memory e → ℕ → List Seen → Bool
given e m τ [] = true
given e m τ (k ∷ l) =
    cond (leb τ k.0) (cond (eqb (answer e m k.0 k.1) k.2) (given e (next e m k.0 k.1) (suc k.0) l) false) false

test_gives : (e : Pattern) (m : Memory e) (τ : ℕ) (l : List Seen) → given e m τ l ≡ true → Gives e m τ l
unfolding given
test_gives e m τ [] p = tt
test_gives e m τ (k ∷ l) p =
    go (leb τ k.0) (eqb (answer e m k.0 k.1) k.2) refl refl (test_gives e (next e m k.0 k.1) (suc k.0) l) p
  where
    go : (a b : Bool) → leb τ k.0 ≡ a → eqb (answer e m k.0 k.1) k.2 ≡ b
        → (given e (next e m k.0 k.1) (suc k.0) l ≡ true → Gives e (next e m k.0 k.1) (suc k.0) l)
        → cond a (cond b (given e (next e m k.0 k.1) (suc k.0) l) false) false ≡ true → Gives e m τ (k ∷ l)
    go true true q r f p = (leb-true τ k.0 q, eqb-true (answer e m k.0 k.1) k.2 r, f p)
    go true false q r f p = impossible cc
    go false b q r f p = impossible cc

pub seen : (e : Pattern) (l : List Seen) → given e (fresh e) 0 l ≡ true → SeenAfter e [] l
unfolding run run_from
seen e l p = seen_after e [] l tt (test_gives e (fresh e) 0 l p)
