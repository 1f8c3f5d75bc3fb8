-- One tick: from a memory that has seen all before the tick, the answer is right, and the next memory has seen the tick too.
-- Assumes nothing.
use mathlib.Core.Path.{◌≡◌, refl}
use mathlib.Core.Logic.{inl, inr}
use mathlib.Core.List.{List, [], ◌∷◌, ◌++◌}
use Prim.Native.Nat.{ℕ, suc, ◌≤◌, min, max}
use native.Mathlib.Decide.{ℕ_discrete}
use native.Mathlib.Omega.{arith}
use Rattle.rules.specs.declared.Op.TheVariants.{Either, Both, Without, Chain}
use Rattle.rules.specs.Bits.{bit}
use Rattle.rules.specs.Lists.{In, All}
use Rattle.rules.specs.Pattern.{Pattern, event, pair, within}
use Rattle.rules.specs.Instances.{Record, Has, Latest}
use Rattle.rules.proofs.Lists.{in_left, in_right, in_cases, in_one, in_two, all_map}
use Rattle.detector.specs.Memory.{Span, Memory}
use Rattle.detector.specs.Possible.{starts_of, starts}
use Rattle.detector.specs.Choice.{gather}
use Rattle.detector.specs.Step.{starting_at, later, short_enough, unblocked, answer, next}
use Rattle.detector.specs.Form.{Form}
use Rattle.detector.proofs.Good.{Top, Real, Good}
use Rattle.detector.proofs.Operators.{later_start, later_real, top_step}
use Rattle.detector.proofs.Operators.{event_latest, either_latest, within_latest, without_latest, both_latest}
use Rattle.detector.proofs.Choice.{choose_all, gather_all}
use Rattle.detector.proofs.Chain.{chain_latest, chain_reach, gather_kept, real_none, real_suc}
use Rattle.detector.proofs.From.{From, from_wider, from_eq, from_max, from_min, from_pick, from_later, all_starts, in_starts}
use Rattle.detector.proofs.Form.{starts_le}

-- the answer is the latest; the memory has seen the tick; the answer and the possible starts after it were possible before, or are the tick
pub record Stepped (r : Record) (e : Pattern) (m : Memory e) (t w : ℕ) : Type 0 where
  pub right : Latest (Has r e) t (answer e m t w)
  pub good : Good r e (next e m t w) (suc t)
  pub origin : From (starts e m) t (answer e m t w)
  pub stays : (σ : ℕ) → In σ (starts e (next e m t w)) → From (starts e m) t σ

module _ (r : Record) (t w : ℕ) (q : r t ≡ w) where
  step_event : (n : ℕ) → Stepped r (event n) tt t w
  unfolding answer next
  step_event n = record {
    right = event_latest r n t w q;
    good = tt;
    origin = from_pick [] t (starting_at t) (ℕ_discrete (bit w n) 1) (inr (inl refl));
    stays = λ σ i. absurd i;
  }

  step_either :
      (x y : Pattern) (m : Memory x) (k : Memory y) → Stepped r x m t w → Stepped r y k t w → Stepped r (pair Either x y) (m, k) t w
  unfolding answer next
  step_either x y m k a b = record {
    right = either_latest a.right b.right;
    good = (a.good, b.good);
    origin = from_max l t (answer x m t w) (answer y k t w) (from_x (answer x m t w) a.origin) (from_y (answer y k t w) b.origin);
    stays = λ σ. in_cases σ (starts x (next x m t w)) (starts y (next y k t w)) (λ i. from_x σ (a.stays σ i)) (λ i. from_y σ (b.stays σ i));
  }
    where
      l : List ℕ
      l = starts x m ++ starts y k

      from_x : (c : ℕ) → From (starts x m) t c → From l t c
      from_x c = from_wider (starts x m) l t c (in_left c (starts x m) (starts y k))

      from_y : (c : ℕ) → From (starts y k) t c → From l t c
      from_y c = from_wider (starts y k) l t c (in_right c (starts x m) (starts y k))

  step_within : (x : Pattern) (n : ℕ) (m : Memory x) → Stepped r x m t w → Stepped r (within x n) m t w
  unfolding answer next
  step_within x n m a = record {
    right = within_latest n a.right;
    good = a.good;
    origin = from_pick (starts x m) t (answer x m t w) (short_enough n t (answer x m t w)) a.origin;
    stays = a.stays;
  }

  step_without :
      (x y : Pattern) (m : Memory x) (k : Memory y) (v : ℕ) → Top (Has r y) t v →
      Stepped r x m t w → Stepped r y k t w → Stepped r (pair Without x y) (m, k, v) t w
  unfolding answer next
  step_without x y m k v h a b = record {
    right = without_latest a.right (top_step h b.right (max v (answer y k t w)) refl);
    good = (a.good, b.good, top_step h b.right (max v (answer y k t w)) refl);
    origin = from_pick (starts x m) t (answer x m t w) (unblocked (max v (answer y k t w)) (answer x m t w)) a.origin;
    stays = a.stays;
  }

  -- c is left, d is right
  step_both :
      (x y : Pattern) (m : Memory x) (k : Memory y) (c d : Span) → Top (Has r x) t c.start → Top (Has r y) t d.start →
      Stepped r x m t w → Stepped r y k t w → Stepped r (pair Both x y) (m, k, c, d) t w
  unfolding answer next
  step_both x y m k c d hc hd a b = record {
    right = both_latest a.right b.right tx ty;
    good = (a.good, b.good, tx, ty);
    origin = from_max l t (min ax rd) (min lc ay) (from_min l t ax rd fx frd) (from_min l t lc ay flc fy);
    stays = λ σ. in_cases σ (starts x (next x m t w)) (starts y (next y k t w) ++ (lc ∷ rd ∷ [])) (λ i. from_x σ (a.stays σ i))
        (in_cases σ (starts y (next y k t w)) (lc ∷ rd ∷ []) (λ i. from_y σ (b.stays σ i))
        (in_two σ lc rd (λ e. from_eq l t σ lc e flc) (λ e. from_eq l t σ rd e frd)));
  }
    where
      ax : ℕ
      ax = answer x m t w

      ay : ℕ
      ay = answer y k t w

      lc : ℕ
      lc = (later c ax t).start

      rd : ℕ
      rd = (later d ay t).start

      sides : List ℕ
      sides = c.start ∷ d.start ∷ []

      l : List ℕ
      l = starts x m ++ (starts y k ++ sides)

      tx : Top (Has r x) (suc t) lc
      tx = top_step hc a.right lc (later_start c ax t)

      ty : Top (Has r y) (suc t) rd
      ty = top_step hd b.right rd (later_start d ay t)

      from_x : (z : ℕ) → From (starts x m) t z → From l t z
      from_x z = from_wider (starts x m) l t z (in_left z (starts x m) (starts y k ++ sides))

      from_y : (z : ℕ) → From (starts y k) t z → From l t z
      from_y z = from_wider (starts y k) l t z (λ i. in_right z (starts x m) (starts y k ++ sides) (in_left z (starts y k) sides i))

      from_sides : (z : ℕ) → In z sides → From l t z
      from_sides z i = inr (inr (in_right z (starts x m) (starts y k ++ sides) (in_right z (starts y k) sides i)))

      fx : From l t ax
      fx = from_x ax a.origin

      fy : From l t ay
      fy = from_y ay b.origin

      flc : From l t lc
      flc = from_later l t ax c (from_sides c.start (inl refl)) fx

      frd : From l t rd
      frd = from_later l t ay d (from_sides d.start (inr (inl refl))) fy

  -- p is latest, ps the kept pairs; the new ones still reach all that y may yet need
  step_chain :
      (x y : Pattern) (m : Memory x) (k : Memory y) (p : Span) (ps : List Span) → Good r (pair Chain x y) (m, k, p, ps) t →
      ((σ : ℕ) → In σ (starts y k) → σ ≤ t) →
      Stepped r x m t w → Stepped r y k t w → Stepped r (pair Chain x y) (m, k, p, ps) t w
  unfolding answer next
  step_chain x y m k p ps g le a b = record {
    right = chain_latest (Has r x) t p ps (starts y k) g.2 g.3 g.5 le g.4 b.right b.origin;
    good =
        let latest = real_suc p g.3 in
        let kept = all_map ps real_suc g.4 in
        let new = later_real p ax t g.3 a.right in (
          a.good,
          b.good,
          top_step g.2 a.right lp (later_start p ax t),
          new,
          search (gather_all (Real (Has r x) (suc t)) (real_none (Has r x) (suc t))),
          search (gather_kept, chain_reach (Has r x) t p ps (starts y k) g.2 g.3 g.5 le, b.stays),
        );
    origin = choose_all (λ z. From l t z.start) (inl refl) (p ∷ ps) (answer y k t w) old;
    stays = λ σ. in_cases σ (starts x (next x m t w)) (starts_of (gather (p ∷ ps) ss') ++ (lp ∷ [])) (λ i. from_x σ (a.stays σ i))
        (in_cases σ (starts_of (gather (p ∷ ps) ss')) (lp ∷ [])
        (in_starts (From l t) (gather (p ∷ ps) ss') (gather_all (λ z. From l t z.start) (inl refl) (p ∷ ps) ss' old) σ)
        (in_one σ lp (λ e. from_eq l t σ lp e (from_later l t ax p old.0 (from_x ax a.origin)))));
  }
    where
      ax : ℕ
      ax = answer x m t w

      lp : ℕ
      lp = (later p ax t).start

      ss' : List ℕ
      ss' = starts y (next y k t w)

      own : List ℕ
      own = starts_of ps ++ (p.start ∷ [])

      l : List ℕ
      l = starts x m ++ own

      from_x : (z : ℕ) → From (starts x m) t z → From l t z
      from_x z = from_wider (starts x m) l t z (in_left z (starts x m) own)

      from_own : (z : ℕ) → In z own → From l t z
      from_own z i = inr (inr (in_right z (starts x m) own i))

      old : All (λ z. From l t z.start) (p ∷ ps)
      old = (
        from_own p.start (in_right p.start (starts_of ps) (p.start ∷ []) (inl refl)),
        all_starts (From l t) ps (λ z i. from_own z (in_left z (starts_of ps) (p.start ∷ []) i)),
      )

  -- the six steps together; that the memory is in form bounds the possible starts
  pub step : (τ : ℕ) → τ ≤ t → (e : Pattern) (m : Memory e) → Form τ e m → Good r e m t → Stepped r e m t w
  step τ j (event n) m f g = step_event n
  step τ j (pair Either x y) m f g = step_either x y m.0 m.1 (step τ j x m.0 f.0 g.0) (step τ j y m.1 f.1 g.1)
  step τ j (pair Both x y) m f g =
      step_both x y m.0 m.1 m.2 m.3 g.2 g.3 (step τ j x m.0 f.0 g.0) (step τ j y m.1 f.1 g.1)
  step τ j (pair Without x y) m f g =
      step_without x y m.0 m.1 m.2 g.2 (step τ j x m.0 f.0 g.0) (step τ j y m.1 f.1 g.1)
  step τ j (pair Chain x y) m f g =
      step_chain x y m.0 m.1 m.2 m.3 g (λ σ i. omega (arith, starts_le τ y m.1 f.1 σ i))
      (step τ j x m.0 f.0 g.0) (step τ j y m.1 f.1 g.1)
  step τ j (within x n) m f g = step_within x n m (step τ j x m f g)
