-- What reading and printing promise leaves no choice: the answer and what the slice holds follow from the arguments. Assumes nothing.
use Rattle.std.proofs.Common.{◌≡◌, ℕ, ◌-◌, ◌≤◌, cond, ltb, List, [], ◌++◌, length, drop, Result, Ok, Err, sym, refl, ap, ◌∙◌, ap₂, arith, le-ltb, lt-ltb}
use Rattle.rules.proofs.Impossible.{impossible}
use Rattle.rules.specs.Limits.{argument_bytes, most_entries, most_text}
use Rattle.rules.specs.Pattern.{Pattern, size}
use Rattle.refusal.specs.declared.Refusal.{Refusal}
use Rattle.refusal.specs.declared.Refusal.TheVariants.{Long, Syntax, Many, Room}
use Rattle.body.specs.Postfix.{encode}
use Rattle.body.specs.Check.{check_of}
use Rattle.body.specs.Claim.{BodyOf}
use Rattle.body.proofs.Bodies.{encode_sound, one_pattern as one_tree}
use Rattle.text.specs.Render.{render}
use Rattle.text.specs.Grammar.{Broken}
use Rattle.text.specs.Answer.{IsText, ReadingOf, PrintingOf}
use Rattle.text.specs.Answer.RefusedText.{long, syntax, many, room}
use Rattle.text.specs.Answer.RefusedBody.{unsound, room as text_room}
use Rattle.text.specs.Claim.{OneReading, OnePrinting}
use Rattle.text.specs.inner.Machine.{read_from}
use Rattle.text.specs.inner.Machine.State.{want}
use Rattle.text.proofs.Complete.{complete_whole}
use Rattle.text.proofs.Sound.{text_of, stopped_at, one_place}

-- an answer and the slice afterwards
record Answer : Type 0 where
  answer : Result ℕ Refusal
  slice : List ℕ

same_answer : (x y z : Answer) → x ≡ y → x ≡ z → (y.answer ≡ z.answer) × (y.slice ≡ z.slice)
same_answer x y z p q = (ap (λ (w : Answer). w.answer) (sym p ∙ q), ap (λ (w : Answer). w.slice) (sym p ∙ q))

-- reading, computed
whole_of : Pattern → List ℕ → Answer
whole_of e d =
    let need : ℕ = length (encode argument_bytes e) in
    cond (ltb most_entries (size e)) (record { answer = Err Many; slice = d })
    (cond (ltb (length d) need) (record { answer = Err (Room need); slice = d })
    (record { answer = Ok need; slice = encode argument_bytes e ++ drop need d }))

outcome_of : List ℕ → List ℕ → Result Pattern (List ℕ) → Answer
outcome_of s d (Ok e) = whole_of e d
outcome_of s d (Err r) = record { answer = Err (Syntax (length s - length r)); slice = d }

read_of : List ℕ → List ℕ → Answer
read_of s d = cond (ltb most_text (length s)) (record { answer = Err Long; slice = d }) (outcome_of s d (read_from (want []) s))

module _ (s d : List ℕ) where
  of_text : (t : IsText s) → read_of s d ≡ whole_of t.tree d
  unfolding read_of outcome_of
  of_text t = simp (le-ltb most_text (length s) t.short, complete_whole s t.tree t.text)

  of_broken : (place : ℕ) → length s ≤ most_text → Broken s place → read_of s d ≡ record { answer = Err (Syntax place); slice = d }
  unfolding read_of outcome_of
  of_broken place h b = simp (le-ltb most_text (length s) h) (go (read_from (want []) s) refl)
    where
      go : (o : Result Pattern (List ℕ)) → read_from (want []) s ≡ o → outcome_of s d o ≡ record { answer = Err (Syntax place); slice = d }
      go (Ok e) q = absurd (b.no_text e (text_of s e q))
      go (Err r) q = ap (λ (k : ℕ). record { answer = Err (Syntax k); slice = d }) (one_place s _ place (stopped_at s r q) b)

  kept : {r : Result ℕ Refusal} {d' : List ℕ} → d' ≡ d → read_of s d ≡ record { answer = r; slice = d } → read_of s d ≡ record { answer = r; slice = d' }
  kept {r} k p = p ∙ ap (λ (w : List ℕ). record { answer = r; slice = w }) (sym k)

  decided : (d' : List ℕ) (r : Result ℕ Refusal) → ReadingOf s d d' r → read_of s d ≡ record { answer = r; slice = d' }
  unfolding whole_of read_of
  decided d' (Ok bytes) a =
      of_text a.some
      ∙ simp (
        le-ltb most_entries (size a.some.tree) a.few,
        le-ltb (length d) (length (encode argument_bytes a.some.tree)) (omega (arith, a.counts, a.fits)),
      )
      (ap₂ (λ (k : ℕ) (w : List ℕ). record { answer = Ok k; slice = w }) (sym a.counts)
      (ap (λ (k : ℕ). encode argument_bytes a.some.tree ++ drop k d) (sym a.counts) ∙ sym a.written))
  decided d' (Err r) (long a, k) = kept k (simp (lt-ltb most_text (length s) a.long))
  decided d' (Err r) (syntax a, k) = kept k (of_broken _ a.short a.broken)
  decided d' (Err r) (many a, k) = kept k (of_text a.some ∙ simp (lt-ltb most_entries (size a.some.tree) a.many))
  decided d' (Err r) (room a, k) =
      kept k (of_text a.some
      ∙ simp (
        le-ltb most_entries (size a.some.tree) a.few,
        lt-ltb (length d) (length (encode argument_bytes a.some.tree)) (omega (arith, a.needs, a.lacks)),
      )
      (ap (λ (k : ℕ). record { answer = Err (Room k); slice = d }) (sym a.needs)))

pub one_reading : OneReading
one_reading s d d₁ d₂ r₁ r₂ a b = same_answer (read_of s d) _ _ (decided s d d₁ r₁ a) (decided s d d₂ r₂ b)

-- printing: the check refuses the body, or the answer follows from its pattern
print_of : Pattern → List ℕ → Answer
print_of e d =
    cond (ltb (length d) (length (render e))) (record { answer = Err (Room (length (render e))); slice = d })
    (record { answer = Ok (length (render e)); slice = render e ++ drop (length (render e)) d })

data Decision (b d d' : List ℕ) (r : Result ℕ Refusal) : Type 0 where
  refused : (q : Refusal) → check_of argument_bytes b ≡ Err q → r ≡ Err q → d' ≡ d → Decision b d d' r
  printed : (e : Pattern) → BodyOf argument_bytes b e → print_of e d ≡ record { answer = r; slice = d' } → Decision b d d' r

decision : (b d d' : List ℕ) (r : Result ℕ Refusal) → PrintingOf b d d' r → Decision b d d' r
unfolding print_of
decision b d d' (Ok bytes) a =
    printed a.some.tree a.some.body
    (simp (le-ltb (length d) (length (render a.some.tree)) (omega (arith, a.counts, a.fits)))
    (ap₂ (λ (k : ℕ) (w : List ℕ). record { answer = Ok k; slice = w }) (sym a.counts)
    (ap (λ (k : ℕ). render a.some.tree ++ drop k d) (sym a.counts) ∙ sym a.written)))
decision b d d' (Err r) (unsound a, k) = refused r a.unsound refl k
decision b d d' (Err r) (text_room a, k) =
    printed a.some.tree a.some.body
    (simp (lt-ltb (length d) (length (render a.some.tree)) (omega (arith, a.needs, a.lacks)))
    (ap₂ (λ (k : ℕ) (w : List ℕ). record { answer = Err (Room k); slice = w }) (sym a.needs) (sym k)))

-- the body of a pattern is not refused
no_refusal : {C : Type 0} (b : List ℕ) (e : Pattern) (q : Refusal) → BodyOf argument_bytes b e → check_of argument_bytes b ≡ Err q → C
no_refusal b e q h p =
    let s : check_of argument_bytes b ≡ Ok tt = ap (check_of argument_bytes) h.same ∙ encode_sound argument_bytes (omega arith) e h.bodied in
    impossible cc

pub one_printing : OnePrinting
one_printing b d d₁ d₂ r₁ r₂ a₁ a₂ = go (decision b d d₁ r₁ a₁) (decision b d d₂ r₂ a₂)
  where
    go : Decision b d d₁ r₁ → Decision b d d₂ r₂ → (r₁ ≡ r₂) × (d₁ ≡ d₂)
    go (refused q₁ c₁ e₁ k₁) (refused q₂ c₂ e₂ k₂) = ((let z : q₁ ≡ q₂ = cc in cc), k₁ ∙ sym k₂)
    go (refused q₁ c₁ e₁ k₁) (printed e h p) = no_refusal b e q₁ h c₁
    go (printed e h p) (refused q₂ c₂ e₂ k₂) = no_refusal b e q₂ h c₂
    go (printed e h p) (printed e' h' p') =
        same_answer (print_of e d) _ _ p (ap (λ (x : Pattern). print_of x d) (one_tree argument_bytes (omega arith) b e e' h h') ∙ p')
