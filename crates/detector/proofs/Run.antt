-- A run: ticks without events end nothing, each tick is a step, so the memory that a history leaves has seen all of it and is in form.
-- Assumes nothing.
use mathlib.Core.Path.{◌≡◌, refl}
use mathlib.Core.List.{List, [], ◌∷◌, ◌++◌}
use Prim.Native.Nat.{ℕ, suc, ◌≤◌, ◌<◌}
use native.Mathlib.Decide.{dec_lt}
use native.Mathlib.Omega.{arith}
use Rattle.rules.specs.Pattern.{Pattern}
use Rattle.rules.specs.Instances.{Record, Has, Latest}
use Rattle.rules.specs.History.{Tick, Rising, next_tick, record_of}
use Rattle.rules.proofs.Facts.{has_some}
use Rattle.detector.specs.Memory.{Memory, fresh}
use Rattle.detector.specs.Step.{answer, next}
use Rattle.detector.specs.Run.{run_from, run}
use Rattle.detector.specs.Form.{Form}
use Rattle.detector.proofs.Good.{Good, Same, good_move, fresh_good}
use Rattle.detector.proofs.Step.{step}
use Rattle.detector.proofs.Form.{fresh_form, in_form}
use Rattle.detector.proofs.History.{Follows, record_follows, follows_split, rising_before}

-- ticks without events end nothing
good_skip :
    (r : Record) (τ τ' : ℕ) → τ ≤ τ' → ((u : ℕ) → τ ≤ u → u < τ' → r u ≡ 0) →
    (e : Pattern) (m : Memory e) → Good r e m τ → Good r e m τ'
good_skip r τ τ' le z e m g = good_move r τ τ' same e m g
  where
    early : (e : Pattern) (s u : ℕ) → Has r e s u → u < τ' → Dec (u < τ) → u < τ
    early e s u x k (yes d) = d
    early e s u x k (no d) = absurd (has_some r e s u x (z u (omega arith) k))

    same : (e : Pattern) → Same (Has r e) τ τ'
    same e = record { there = λ s u k x. omega arith; back = λ s u k x. early e s u x k (dec_lt u τ) }

-- a memory that a run reaches is in form, for the next tick allowed
run_from_form : (e : Pattern) (τ : ℕ) (m : Memory e) (h : List Tick) → Rising τ h → Form τ e m → Form (next_tick τ h) e (run_from e m h)
unfolding run_from
run_from_form e τ m [] q f = f
run_from_form e τ m (k ∷ h) q f = run_from_form e (suc k.0) (next e m k.0 k.1) h q.1 (in_form k.0 k.1 τ q.0 e m f)

pub run_form : (e : Pattern) (h : List Tick) → Rising 0 h → Form (next_tick 0 h) e (run e h)
unfolding run
run_form e h q = run_from_form e 0 (fresh e) h q (fresh_form e)

-- a memory that a run reaches has seen all of its ticks
run_good :
    (r : Record) (e : Pattern) (τ : ℕ) (m : Memory e) (h : List Tick) → Follows r τ h → Form τ e m → Good r e m τ →
    Good r e (run_from e m h) (next_tick τ h)
unfolding run_from
run_good r e τ m [] q f g = g
run_good r e τ m (k ∷ h) q f g =
    run_good r e (suc k.0) (next e m k.0 k.1) h q.3 (in_form k.0 k.1 τ q.0 e m f)
    (step r k.0 k.1 q.2 τ q.0 e m f (good_skip r τ k.0 q.0 q.1 e m g)).good

-- the answer at any tick of a history is right: the record has the events of the ticks before it, and its own
pub run_always :
    (e : Pattern) (h l : List Tick) (t w : ℕ) → Rising 0 (h ++ ((t, w) ∷ l)) →
    Latest (Has (record_of (h ++ ((t, w) ∷ l))) e) t (answer e (run e h) t w)
unfolding run
run_always e h l t w q =
    let r : Record = record_of (h ++ ((t, w) ∷ l)) in
    let c = follows_split r 0 h ((t, w) ∷ l) (record_follows r 0 (h ++ ((t, w) ∷ l)) q (λ u a. refl)) in
    let m : Memory e = run_from e (fresh e) h in
    let g : Good r e m (next_tick 0 h) = run_good r e 0 (fresh e) h c.0 (fresh_form e) (fresh_good r e) in
    (step r t w c.1.2 (next_tick 0 h) c.1.0 e m (run_form e h (rising_before 0 h ((t, w) ∷ l) q))
    (good_skip r (next_tick 0 h) t c.1.0 c.1.1 e m g)).right

-- one tick more steps the memory once
run_from_snoc :
    (e : Pattern) (m : Memory e) (h : List Tick) (k : Tick) →
    run_from e m (h ++ (k ∷ [])) ≡ next e (run_from e m h) k.0 k.1
unfolding run_from
run_from_snoc e m [] k = refl
run_from_snoc e m (l ∷ h) k = run_from_snoc e (next e m l.0 l.1) h k

pub run_snoc : (e : Pattern) (h : List Tick) (k : Tick) → run e (h ++ (k ∷ [])) ≡ next e (run e h) k.0 k.1
unfolding run
run_snoc e h k = run_from_snoc e (fresh e) h k
