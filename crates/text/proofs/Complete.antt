-- The machine reads the text of every pattern. Assumes nothing.
use Rattle.std.proofs.Common.{◌≡◌, ℕ, zero, suc, ◌+◌, ◌-◌, ◌*◌, ◌/◌, ◌%◌, ◌<◌, List, [], ◌∷◌, ◌++◌, Option, Some, sym, refl, ap, ◌∙◌, append_assoc, append-nil, arith, Ok}
use Rattle.rules.specs.declared.Op.{Op}
use Rattle.rules.specs.Limits.{letters}
use Rattle.rules.specs.Pattern.{Pattern, event, pair, within, Proper}
use Rattle.decimal.specs.Decimal.{decimal}
use Rattle.decimal.proofs.Decimals.{tens, decimal_one, decimal_last}
use Rattle.text.specs.Render.{numbers, most_digits, letter_byte, op_byte, render}
use Rattle.text.specs.Grammar.{TextOf}
use Rattle.text.specs.Characters.{letter_of, digit_of}
use Rattle.text.specs.inner.Machine.{Frame, State, sign_of, grown, step, after_sign, follow, read_from}
use Rattle.text.specs.inner.Machine.Frame.{first, second}
use Rattle.text.specs.inner.Machine.State.{want, have, limit, number}
use Rattle.decimal.proofs.Branches.{either_way}
use Rattle.text.proofs.Numbers.{grown_on}
use Rattle.text.proofs.Bytes.{letter_of_byte, sign_byte, digit_byte}

-- one byte that leads on
pub on : (σ τ : State) (c : ℕ) (t : List ℕ) → step σ c ≡ Some τ → read_from σ (c ∷ t) ≡ read_from τ t
unfolding read_from
on σ τ c t e = ap (λ (m : Option State). follow m (λ υ. read_from υ t) (c ∷ t)) e

open_step : (K : List Frame) → step (want K) 40 ≡ Some (want (first ∷ K))
unfolding letter_of
open_step K = refl

letter_step : (n : ℕ) (K : List Frame) → n < letters → step (want K) (letter_byte n) ≡ Some (have (event n) K)
letter_step n K h = simp (letter_of_byte n h)

sign_step : (op : Op) (x : Pattern) (K : List Frame) → step (have x (first ∷ K)) (op_byte op) ≡ Some (want (second op x ∷ K))
sign_step op x K = ap (after_sign x K) (sign_byte op)

pub cap_step : (x : Pattern) (K : List Frame) → step (have x (first ∷ K)) 64 ≡ Some (limit x K)
unfolding sign_of
cap_step x K = refl

pub digit_step : (n : ℕ) (x : Pattern) (K : List Frame) → n < 10 → step (limit x K) (n + 48) ≡ Some (number x n K)
digit_step n x K h = simp (digit_byte n h)

more_step : (v d : ℕ) (x : Pattern) (K : List Frame) → d < 10 → 0 < v → v * 10 + d < numbers
    → step (number x v K) (d + 48) ≡ Some (number x (v * 10 + d) K)
more_step v d x K h p q = simp (grown_on v (d + 48) d (digit_byte d h) p q)

pub shut_step : (x : Pattern) (v : ℕ) (K : List Frame) → step (number x v K) 41 ≡ Some (have (within x v) K)
unfolding grown digit_of
shut_step x v K = refl

-- the digits of a number are read as that number
numbered : (k n : ℕ) (x : Pattern) (K : List Frame) (t : List ℕ) → n < tens (suc k) → n < numbers
    → read_from (limit x K) (decimal n ++ t) ≡ read_from (number x n K) t
numbered zero n x K t h small = rw (decimal_one n (omega arith)) (on (limit x K) (number x n K) (n + 48) t (digit_step n x K (omega arith)))
numbered (suc k) n x K t h small =
    either_way n 10
    (λ l. rw (decimal_one n l) (on (limit x K) (number x n K) (n + 48) t (digit_step n x K l)))
    (λ l. ap (λ (w : List ℕ). read_from (limit x K) (w ++ t)) (decimal_last n l)
    ∙ ap (read_from (limit x K)) (append_assoc (decimal (n / 10)) ((n % 10 + 48) ∷ []) t)
    ∙ numbered k (n / 10) x K ((n % 10 + 48) ∷ t) (omega arith) (omega arith)
    ∙ on (number x (n / 10) K) (number x (n / 10 * 10 + n % 10) K) (n % 10 + 48) t
    (more_step (n / 10) (n % 10) x K (omega arith) (omega arith) (omega arith))
    ∙ ap (λ (v : ℕ). read_from (number x v K) t) (omega arith))

-- what stands between two operands and a bracket
regroup : (x y t : List ℕ) (c : ℕ) → (x ++ (c ∷ y ++ (41 ∷ []))) ++ t ≡ x ++ (c ∷ (y ++ (41 ∷ t)))
regroup x y t c = append_assoc x (c ∷ y ++ (41 ∷ [])) t ∙ ap (λ (w : List ℕ). x ++ (c ∷ w)) (append_assoc y (41 ∷ []) t)

-- the text of a pattern is read as that pattern, whatever stands around it
pub complete : (e : Pattern) (K : List Frame) (t : List ℕ) → Proper numbers e → read_from (want K) (render e ++ t) ≡ read_from (have e K) t
complete (event n) K t h = on (want K) (have (event n) K) (letter_byte n) t (letter_step n K h)
complete (pair op x y) K t h =
    on (want K) (want (first ∷ K)) 40 _ (open_step K)
    ∙ ap (read_from (want (first ∷ K))) (regroup (render x) (render y) t (op_byte op))
    ∙ complete x (first ∷ K) (op_byte op ∷ (render y ++ (41 ∷ t))) h.0
    ∙ on (have x (first ∷ K)) (want (second op x ∷ K)) (op_byte op) _ (sign_step op x K)
    ∙ complete y (second op x ∷ K) (41 ∷ t) h.1
    ∙ on (have y (second op x ∷ K)) (have (pair op x y) K) 41 t refl
complete (within x n) K t h =
    on (want K) (want (first ∷ K)) 40 _ (open_step K)
    ∙ ap (read_from (want (first ∷ K))) (regroup (render x) (decimal n) t 64)
    ∙ complete x (first ∷ K) (64 ∷ (decimal n ++ (41 ∷ t))) h.0
    ∙ on (have x (first ∷ K)) (limit x K) 64 _ (cap_step x K)
    ∙ numbered (most_digits - 1) n x K (41 ∷ t) (omega (arith, h.1)) h.1
    ∙ on (number x n K) (have (within x n) K) 41 t (shut_step x n K)

pub complete_whole : (s : List ℕ) (e : Pattern) → TextOf s e → read_from (want []) s ≡ Ok e
unfolding read_from
complete_whole s e h = ap (read_from (want [])) (h.same ∙ sym (append-nil (render e))) ∙ complete e [] [] h.proper
