-- The ways that `read_pattern` ends: one lemma for each answer. Assumes nothing.
use Rattle.std.proofs.Common.{◌≡◌, ℕ, ◌*◌, ◌<◌, ◌≤◌, List, [], ◌++◌, length, take, drop, replicate, Result, Ok, Err, sym, refl, ap, ◌∙◌, subst, arith, drop_of_length-le, take_at}
use Rattle.std.specs.Result.{MatchResult, IsErrAnd}
use lib.Seq.{sets-eq}
use Rattle.rules.proofs.Impossible.{impossible}
use Rattle.rules.specs.Pattern.{size}
use Rattle.rules.specs.Limits.{argument_bytes, most_entries, most_text}
use Rattle.body.specs.Postfix.{encode}
use Rattle.body.proofs.Bodies.{length_encode}
use Rattle.refusal.specs.declared.Refusal.{Refusal}
use Rattle.refusal.specs.declared.Refusal.TheVariants.{Syntax, Room}
use Rattle.text.specs.Answer.{IsText, IsSyntax, IsMany, RefusedText, ReadingOf}
use Rattle.text.specs.Answer.RefusedText.{syntax, room}
use Rattle.text.specs.declared.made.Made.{Made}
use Rattle.text.specs.inner.Machine.{read_from}
use Rattle.text.specs.inner.Machine.State.{have}
use Rattle.text.specs.inner.Written.{entry_length, body_length}
use Rattle.text.specs.inner.Helpers.{IsExpression, ExpressionAt}
use Rattle.copying.specs.Copy.{CopyOf}
use Rattle.text.proofs.Copies.{by_copy}
use Rattle.text.proofs.Steps.{run_no}
use Rattle.text.proofs.Sound.{broken, text_of}

module _ (s : List ℕ) (short : length s ≤ most_text) where
  -- what `expression` answered of the whole text, as the read goes on or ends there
  pub reached : {d b : Made} (r : Result ℕ ℕ) (end : ℕ) → ExpressionAt s 0 d b r
      → MatchResult r (λ x. ◌≡◌ {A = Result ℕ Refusal} (Ok end) (Ok x)) (λ e. ⊥) → IsExpression s 0 d.entries d.bytes b.bytes end b.entries
  reached {d} {b} (Ok x) end a e = let z : x ≡ end = cc in subst (λ (y : ℕ). IsExpression s 0 d.entries d.bytes b.bytes y b.entries) z a
  reached {d} {b} (Err place) end a e = absurd e

  pub stuck : (m b : Made) (d : List ℕ) (r : Result ℕ ℕ) (q : Refusal) → ExpressionAt s 0 m b r
      → MatchResult r (λ x. ◌≡◌ {A = Result ℕ Refusal} (Err q) (Ok x)) (λ e. q ≡ Syntax e) → RefusedText s d q
  stuck m b d (Ok x) q a e = impossible cc
  stuck m b d (Err place) q a e = rw e (syntax (record { short = short; broken = broken s place a.inside (a.reads []) }))

  module _ {b : List ℕ} {end m : ℕ} (l : IsExpression s 0 0 (replicate body_length 0) b end m) where
    pub over : end < length s → IsSyntax s end
    over h = record { short = short; broken = broken s end l.inside (l.reads [] ∙ run_no s end (have l.tree []) h refl) }

    is_text : length s ≤ end → IsText s
    is_text h = record { short = short; tree = l.tree; text = text_of s l.tree (l.reads [] ∙ at_end) }
      where
        at_end : read_from (have l.tree []) (drop end s) ≡ Ok l.tree
        at_end = unfold read_from in ap (read_from (have l.tree [])) (drop_of_length-le s h)

    bytes : m * entry_length ≡ length (encode argument_bytes l.tree)
    bytes = omega (arith, l.count, length_encode argument_bytes l.tree)

    pub many_entries : length s ≤ end → most_entries < m → IsMany s
    unfolding is_text
    many_entries h g = record { some = is_text h; many = omega (arith, l.count) }

    made : m ≤ most_entries → take (m * entry_length) b ≡ encode argument_bytes l.tree
    made g =
        ap (take (m * entry_length))
        (l.written refl ∙ sets-eq (encode argument_bytes l.tree) (replicate body_length 0) 0 (omega (arith, bytes)))
        ∙ take_at (encode argument_bytes l.tree) _ (m * entry_length) (sym bytes)

    -- the answer, by the copy
    pub read : (d d' part : List ℕ) (r : Result ℕ ℕ) (q : Result ℕ Refusal) → length s ≤ end → m ≤ most_entries → part ≡ take (m * entry_length) b
        → CopyOf part d d' r → MatchResult r (λ n. q ≡ Ok n) (λ n. IsErrAnd q (λ y. y ≡ Room n)) → ReadingOf s d d' q
    unfolding is_text
    read d d' part r q h g w a e =
        let same : part ≡ encode argument_bytes l.tree = w ∙ made g in
        let few : size l.tree ≤ most_entries = omega (arith, l.count) in
        by_copy (ReadingOf s d d') part d d' r q a e
        (λ n i. record { some = is_text h; few = few; counts = i.counts ∙ ap length same; fits = i.fits; written = i.copied ∙ ap (λ (x : List ℕ). x ++ drop n d) same })
        (λ n i. (room (record { some = is_text h; few = few; needs = i.needs ∙ ap length same; lacks = i.lacks }), i.kept))
