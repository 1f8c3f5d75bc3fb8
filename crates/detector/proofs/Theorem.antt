-- Each claim of specs/Claim, proved. Assumes nothing.
use mathlib.Core.Path.{◌≡◌, refl, sym, subst}
use mathlib.Core.List.{[], ◌∷◌}
use Prim.Native.Nat.{ℕ, ◌≤◌, ◌<◌, min, max}
use native.Mathlib.Decide.{ℕ_discrete}
use native.Mathlib.Omega.{arith}
use Rattle.rules.specs.Decisions.{pick}
use Rattle.detector.specs.Possible.{starts}
use Rattle.detector.specs.Choice.{gather}
use Rattle.detector.specs.Step.{later, answer, next}
use Rattle.detector.specs.Claim.{Right, Always, BeginsInForm, StaysInForm, FewStarts, ChoosesAsWorded, KeepsExactly, BothAsWorded}
use Rattle.detector.specs.Claim.{Among, both_worded}
use Rattle.detector.proofs.Operators.{later_start}
use Rattle.detector.proofs.Choice.{choose_before}
use Rattle.detector.proofs.Exact.{choose_among, choose_beats, gather_only, gather_every}
use Rattle.detector.proofs.Order.{gather_sorted}
use Rattle.detector.proofs.Form.{fresh_form, in_form, length_starts}
use Rattle.detector.proofs.Run.{run_always}

pub always : Always
always = run_always

pub right : Right
right e h t w q = run_always e h [] t w q

pub begins_in_form : BeginsInForm
begins_in_form = fresh_form

pub stays_in_form : StaysInForm
stays_in_form = in_form

pub few_starts : FewStarts
few_starts = length_starts

pub chooses_as_worded : ChoosesAsWorded
chooses_as_worded l σ = ((λ k. (choose_among l σ k, choose_before l σ k)), choose_beats l σ)

pub keeps_exactly : KeepsExactly
unfolding next
keeps_exactly x y m t w =
    let old = m.2 ∷ m.3 in
    let ss = starts y (next y m.1 t w) in (
      gather_only old ss,
      (λ q c. subst (λ z. Among z (gather old ss)) (sym c.2) (gather_every old ss c.0 c.1 (subst (λ z. 0 < z.start) c.2 c.3))),
      gather_sorted old ss,
    )

both_as_starts : (a b left right : ℕ) → a ≤ left → b ≤ right → max (min a right) (min left b) ≡ both_worded a b left right
both_as_starts a b left right al br = go (ℕ_discrete left 0) (ℕ_discrete right 0) (ℕ_discrete a 0) (ℕ_discrete b 0)
  where
    go :
        (d : Dec (left ≡ 0)) (e : Dec (right ≡ 0)) (f : Dec (a ≡ 0)) (g : Dec (b ≡ 0)) →
        max (min a right) (min left b)
        ≡ pick d 0 (pick e 0 (pick f (pick g 0 (min left b)) (pick g (min a right) (max (min a right) (min left b)))))
    go (yes d) e f g = omega arith
    go (no d) (yes e) f g = omega arith
    go (no d) (no e) (yes f) (yes g) = omega arith
    go (no d) (no e) (yes f) (no g) = omega arith
    go (no d) (no e) (no f) (yes g) = omega arith
    go (no d) (no e) (no f) (no g) = refl

-- left is at least x's answer, and right at least y's, as they become it where it starts later
pub both_as_worded : BothAsWorded
unfolding answer
both_as_worded x y m t w =
    let a = answer x m.0 t w in
    let b = answer y m.1 t w in
    let left = later_start m.2 a t in
    let right = later_start m.3 b t in
    both_as_starts a b (later m.2 a t).start (later m.3 b t).start (omega arith) (omega arith)
