-- What a function answers that ends with a copy, and gives the room that lacks as a refusal. Assumes nothing.
use Rattle.std.proofs.Common.{◌≡◌, ℕ, List, Result, Ok, Err}
use Rattle.std.specs.Result.{MatchResult, IsErrAnd}
use Rattle.std.proofs.lemmas.Result.{err_from_is_err_and}
use Rattle.copying.specs.Copy.{IsCopied, IsShort, CopyOf}
use Rattle.refusal.specs.declared.Refusal.{Refusal}
use Rattle.refusal.specs.declared.Refusal.TheVariants.{Room}

pub by_copy : (C : Result ℕ Refusal → Type 0) (s d d' : List ℕ) (r : Result ℕ ℕ) (q : Result ℕ Refusal)
    → CopyOf s d d' r → MatchResult r (λ n. q ≡ Ok n) (λ n. IsErrAnd q (λ y. y ≡ Room n))
    → ((n : ℕ) → IsCopied s d d' n → C (Ok n)) → ((n : ℕ) → IsShort s d d' n → C (Err (Room n))) → C q
by_copy C s d d' (Ok n) q a e f g = rw e (f n a)
by_copy C s d d' (Err n) q a e f g = let p = err_from_is_err_and q e in rw (p.1, p.2) (g n a)
