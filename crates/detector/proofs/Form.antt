-- A tick keeps a memory in form, whether or not a run reaches it: each pair stored is an old one or ends at the tick, and the possible
-- starts of y bound the kept pairs. Assumes nothing.
use mathlib.Core.Path.{◌≡◌, refl, ap}
use mathlib.Core.Logic.{inl, inr}
use mathlib.Core.List.{List, [], ◌∷◌, ◌++◌}
use Prim.Native.Nat.{ℕ, suc, ◌+◌, ◌≤◌, max}
use native.Mathlib.Decide.{dec_lt, ℕ_discrete}
use native.Mathlib.Omega.{arith}
use lib.ListN.{length, length-append}
use Rattle.rules.specs.declared.Op.TheVariants.{Either, Both, Without, Chain}
use Rattle.rules.specs.Bits.{bit}
use Rattle.rules.specs.Lists.{In, All}
use Rattle.rules.specs.Pattern.{Pattern, event, pair, within, size}
use Rattle.rules.proofs.Lists.{in_cases, in_one, in_two, all_map}
use Rattle.detector.specs.Memory.{Span, none, Memory, fresh}
use Rattle.detector.specs.Possible.{starts_of, starts, p}
use Rattle.detector.specs.Step.{starting_at, pair_at, later, short_enough, unblocked, answer, next}
use Rattle.detector.specs.Form.{Fits, Form}
use Rattle.detector.proofs.Decisions.{pick_cases}
use Rattle.detector.proofs.Choice.{choose_all, gather_all}
use Rattle.detector.proofs.Order.{gather_sorted, gather_length}

none_fits : (τ : ℕ) → Fits τ none
none_fits τ = (omega arith, omega arith, λ e. refl)

-- a fresh memory is in form
pub fresh_form : (e : Pattern) → Form 0 e (fresh e)
unfolding fresh
fresh_form (event n) = tt
fresh_form (pair Either x y) = (fresh_form x, fresh_form y)
fresh_form (pair Both x y) = (fresh_form x, fresh_form y, none_fits 0, none_fits 0)
fresh_form (pair Without x y) = (fresh_form x, fresh_form y, omega arith)
fresh_form (pair Chain x y) = (fresh_form x, fresh_form y, none_fits 0, tt, tt, omega arith)
fresh_form (within x n) = fresh_form x

-- every possible start lies before the next tick
starts_of_le : (τ : ℕ) (l : List Span) → All (Fits τ) l → (σ : ℕ) → In σ (starts_of l) → σ ≤ τ
starts_of_le τ [] f σ i = absurd i
starts_of_le τ (q ∷ l) f σ (inl e) = omega (arith, f.0.0, f.0.1)
starts_of_le τ (q ∷ l) f σ (inr i) = starts_of_le τ l f.1 σ i

pub starts_le : (τ : ℕ) (e : Pattern) (m : Memory e) → Form τ e m → (σ : ℕ) → In σ (starts e m) → σ ≤ τ
starts_le τ (event n) m f σ i = absurd i
starts_le τ (pair Either x y) m f σ i =
    in_cases σ (starts x m.0) (starts y m.1) (starts_le τ x m.0 f.0 σ) (starts_le τ y m.1 f.1 σ) i
starts_le τ (pair Both x y) m f σ i =
    in_cases σ (starts x m.0) (starts y m.1 ++ (m.2.start ∷ m.3.start ∷ []))
    (starts_le τ x m.0 f.0 σ)
    (in_cases σ (starts y m.1) (m.2.start ∷ m.3.start ∷ [])
    (starts_le τ y m.1 f.1 σ)
    (in_two σ m.2.start m.3.start (λ e. omega (arith, f.2.0, f.2.1)) (λ e. omega (arith, f.3.0, f.3.1))))
    i
starts_le τ (pair Without x y) m f σ i = starts_le τ x m.0 f.0 σ i
starts_le τ (pair Chain x y) m f σ i =
    in_cases σ (starts x m.0) (starts_of m.3 ++ (m.2.start ∷ []))
    (starts_le τ x m.0 f.0 σ)
    (in_cases σ (starts_of m.3) (m.2.start ∷ [])
    (starts_of_le τ m.3 f.3 σ)
    (in_one σ m.2.start (λ e. omega (arith, f.2.0, f.2.1))))
    i
starts_le τ (within x n) m f σ i = starts_le τ x m f σ i

-- an answer starts at the tick or before
pub answer_le : (t w τ : ℕ) → τ ≤ t → (e : Pattern) (m : Memory e) → Form τ e m → answer e m t w ≤ suc t
unfolding answer
answer_le t w τ k (event n) m f = pick_cases (λ a. a ≤ suc t) (ℕ_discrete (bit w n) 1) (starting_at t) 0 (λ d. omega arith) (λ d. omega arith)
answer_le t w τ k (pair Either x y) m f = omega (arith, answer_le t w τ k x m.0 f.0, answer_le t w τ k y m.1 f.1)
answer_le t w τ k (pair Both x y) m f = omega (arith, answer_le t w τ k x m.0 f.0, answer_le t w τ k y m.1 f.1)
answer_le t w τ k (pair Without x y) m f =
    pick_cases (λ a. a ≤ suc t) (unblocked (max m.2 (answer y m.1 t w)) (answer x m.0 t w)) (answer x m.0 t w) 0
    (λ d. answer_le t w τ k x m.0 f.0) (λ d. omega arith)
answer_le t w τ k (pair Chain x y) m f =
    let c = choose_all (Fits τ) (none_fits τ) (m.2 ∷ m.3) (answer y m.1 t w) (f.2, f.3) in
    omega (arith, c.0, c.1)
answer_le t w τ k (within x n) m f =
    pick_cases (λ a. a ≤ suc t) (short_enough n t (answer x m t w)) (answer x m t w) 0 (λ d. answer_le t w τ k x m f) (λ d. omega arith)

-- there are at most p possible starts
starts_of_length : (l : List Span) → length (starts_of l) ≡ length l
starts_of_length [] = refl
starts_of_length (q ∷ l) = ap suc (starts_of_length l)

pub length_starts : (τ : ℕ) (e : Pattern) (m : Memory e) → Form τ e m → length (starts e m) ≤ p e
unfolding p
length_starts τ (event n) m f = omega arith
length_starts τ (pair Either x y) m f =
    let a = length_starts τ x m.0 f.0 in
    let b = length_starts τ y m.1 f.1 in
    omega (arith, length-append (starts x m.0) (starts y m.1))
length_starts τ (pair Both x y) m f =
    let a = length_starts τ x m.0 f.0 in
    let b = length_starts τ y m.1 f.1 in
    let sides = m.2.start ∷ m.3.start ∷ [] in
    omega (arith, length-append (starts x m.0) (starts y m.1 ++ sides), length-append (starts y m.1) sides)
length_starts τ (pair Without x y) m f = length_starts τ x m.0 f.0
length_starts τ (pair Chain x y) m f =
    let a = length_starts τ x m.0 f.0 in
    let b = starts_of_length m.3 in
    let last = m.2.start ∷ [] in
    omega (arith, length-append (starts x m.0) (starts_of m.3 ++ last), length-append (starts_of m.3) last, f.5)
length_starts τ (within x n) m f = length_starts τ x m f

fits_suc : (τ t : ℕ) → τ ≤ t → (q : Span) → Fits τ q → Fits (suc t) q
fits_suc τ t k q f = (f.0, omega (arith, f.1), f.2)

later_fits : (τ t a : ℕ) → τ ≤ t → a ≤ suc t → (q : Span) → Fits τ q → Fits (suc t) (later q a t)
unfolding later
later_fits τ t a k j q f =
    pick_cases (Fits (suc t)) (dec_lt q.start a) (pair_at t a) q
    (λ d. (j, omega arith, λ e. absurd (omega arith)))
    (λ d. fits_suc τ t k q f)

-- a tick keeps a memory in form
pub in_form : (t w τ : ℕ) → τ ≤ t → (e : Pattern) (m : Memory e) → Form τ e m → Form (suc t) e (next e m t w)
unfolding next
in_form t w τ k (event n) m f = tt
in_form t w τ k (pair Either x y) m f = (in_form t w τ k x m.0 f.0, in_form t w τ k y m.1 f.1)
in_form t w τ k (pair Both x y) m f = (
  in_form t w τ k x m.0 f.0,
  in_form t w τ k y m.1 f.1,
  later_fits τ t (answer x m.0 t w) k (answer_le t w τ k x m.0 f.0) m.2 f.2,
  later_fits τ t (answer y m.1 t w) k (answer_le t w τ k y m.1 f.1) m.3 f.3,
)
in_form t w τ k (pair Without x y) m f = (
  in_form t w τ k x m.0 f.0,
  in_form t w τ k y m.1 f.1,
  omega (arith, f.2, answer_le t w τ k y m.1 f.1),
)
in_form t w τ k (pair Chain x y) m f =
    let fy = in_form t w τ k y m.1 f.1 in
    let latest = fits_suc τ t k m.2 f.2 in
    let kept = all_map m.3 (fits_suc τ t k) f.3 in
    let new = later_fits τ t (answer x m.0 t w) k (answer_le t w τ k x m.0 f.0) m.2 f.2 in (
      in_form t w τ k x m.0 f.0,
      fy,
      new,
      search (gather_all (Fits (suc t)) (none_fits (suc t))),
      search gather_sorted,
      search (gather_length, length_starts),
    )
in_form t w τ k (within x n) m f = in_form t w τ k x m f

-- a pattern has fewer possible starts than entries
pub p_size : (e : Pattern) → p e + 1 ≤ size e
unfolding p size
p_size (event n) = omega arith
p_size (pair Either x y) = omega (arith, p_size x, p_size y)
p_size (pair Both x y) = omega (arith, p_size x, p_size y)
p_size (pair Without x y) = omega (arith, p_size x, p_size y)
p_size (pair Chain x y) = omega (arith, p_size x, p_size y)
p_size (within x n) = omega (arith, p_size x)
