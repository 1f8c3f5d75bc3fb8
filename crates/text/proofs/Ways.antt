-- The ways that `expression` and `tail` go: one lemma for each way out of the code. Assumes nothing.
use Rattle.std.proofs.Common.{◌≡◌, ℕ, ◌+◌, ◌<◌, List, ◌∷◌, length, get_or, drop, Some, None, sym, refl, ap, ◌∙◌, arith, eq-eqb, ne_eqb}
use Rattle.rules.specs.declared.Op.{Op}
use Rattle.rules.specs.Limits.{argument_bytes}
use Rattle.rules.specs.Pattern.{Pattern, event, size}
use Rattle.body.specs.declared.Entry.TheVariants.{Pair}
use Rattle.body.specs.Bytes.{bytes_of}
use Rattle.body.specs.Entry.{op_number, entry_bytes}
use Rattle.text.specs.Characters.{letter_of}
use Rattle.text.specs.inner.Machine.{Frame, sign_of, read_from, shut, after_sign}
use Rattle.text.specs.inner.Machine.Frame.{first, second}
use Rattle.text.specs.inner.Machine.State.{want, have, limit}
use Rattle.text.specs.declared.reader.Sign.TheVariants.{Operator, Limit}
use Rattle.text.specs.inner.Written.{Written}
use Rattle.text.specs.inner.Helpers.{by, up_to, join, rest_encode, IsValue, IsBad, IsExpression, NoExpression, IsTail, NoTail}
use Rattle.text.proofs.Steps.{run_to, run_no, run_end, shut_to, shut_no, shut_end, second_shut}
use Rattle.text.proofs.Entries.{encode_event, written_after, encode_join, size_join}

-- `(` stands at `at`
pub record Opened (s : List ℕ) (at : ℕ) : Type 0 where
  pub inside : at < length s
  pub no_letter : None ≡ letter_of (get_or s at 0)
  pub bracket : get_or s at 0 ≡ 40

module _ (s : List ℕ) (at : ℕ) where
  pub no_text : length s ≡ at → NoExpression s at at
  no_text h = record { inside = omega arith; reads = λ K. run_end s at (want K) (omega arith) refl }

  pub is_letter : (n : ℕ) (d d' : List ℕ) (k : ℕ) → at < length s → Some k ≡ letter_of (get_or s at 0)
      → Written d d' n (0 ∷ bytes_of argument_bytes k) → IsExpression s at n d d' (at + 1) (n + 1)
  unfolding size entry_bytes
  is_letter n d d' k h q w = record {
    tree = event k;
    reads = λ K. run_to s at (want K) (have (event k) K) h (simp (← q));
    ahead = omega arith;
    inside = omega arith;
    count = refl;
    few = omega arith;
    written = rw (encode_event argument_bytes k) w;
  }

  pub no_open : at < length s → None ≡ letter_of (get_or s at 0) → (get_or s at 0 ≡ 40 → ⊥) → NoExpression s at at
  no_open h q f = record { inside = omega arith; reads = λ K. run_no s at (want K) h (simp (← q, ne_eqb _ _ f)) }

  module _ (o : Opened s at) where
    opened : (K : List Frame) → read_from (want K) (drop at s) ≡ read_from (want (first ∷ K)) (drop (at + 1) s)
    opened K = run_to s at (want K) _ o.inside (simp (← o.no_letter, eq-eqb _ _ o.bracket))

    pub no_left : {p : ℕ} → NoExpression s (at + 1) p → NoExpression s at p
    no_left l = record { inside = l.inside; reads = λ K. opened K ∙ l.reads (first ∷ K) }

    module _ {n : ℕ} {d d₁ : List ℕ} {mid m : ℕ} (l : IsExpression s (at + 1) n d d₁ mid m) where
      pub no_right : {p : ℕ} → NoTail s mid p → NoExpression s at p
      no_right r = record { inside = r.inside; reads = λ K. opened K ∙ l.reads (first ∷ K) ∙ r.reads l.tree K }

      module _ {d₂ : List ℕ} {last all : ℕ} (r : IsTail s mid m d₁ d₂ last all) where
        until : (K : List Frame) → read_from (want K) (drop at s) ≡ shut (join l.tree r.rest) K (drop last s)
        until K = opened K ∙ l.reads (first ∷ K) ∙ r.reads l.tree K

        pub no_more : length s ≡ last → NoExpression s at last
        no_more f = record { inside = r.inside; reads = λ K. until K ∙ shut_end s last _ K (omega arith) }

        pub no_shut : last < length s → (get_or s last 0 ≡ 41 → ⊥) → NoExpression s at last
        no_shut f g = record { inside = r.inside; reads = λ K. until K ∙ shut_no s last _ K f g }

        pub is_bracket : last < length s → get_or s last 0 ≡ 41 → IsExpression s at n d d₂ (last + 1) all
        is_bracket f g = record {
          tree = join l.tree r.rest;
          reads = λ K. until K ∙ shut_to s last _ K f g;
          ahead = omega (arith, l.ahead, r.ahead);
          inside = omega arith;
          count = omega (arith, l.count, r.count, size_join l.tree r.rest);
          few = omega (arith, l.few, r.few);
          written = rw encode_join (written_after d d₁ d₂ n m l.tree (rest_encode r.rest) l.count l.written r.written);
        }

  -- tails
  pub no_tail_text : length s ≡ at → NoTail s at at
  no_tail_text h = record { inside = omega arith; reads = λ x K. run_end s at (have x (first ∷ K)) (omega arith) refl }

  pub no_sign : at < length s → None ≡ sign_of (get_or s at 0) → NoTail s at at
  no_sign h q = record {
    inside = omega arith;
    reads = λ x K. run_no s at (have x (first ∷ K)) h (ap (after_sign x K) (sym q));
  }

  module _ (h : at < length s) where
    module _ (q : Some Limit ≡ sign_of (get_or s at 0)) where
      capped : (x : Pattern) (K : List Frame) → read_from (have x (first ∷ K)) (drop at s) ≡ read_from (limit x K) (drop (at + 1) s)
      capped x K = run_to s at (have x (first ∷ K)) _ h (ap (after_sign x K) (sym q))

      pub no_number : {p : ℕ} → IsBad s (at + 1) p → NoTail s at p
      no_number b = record { inside = b.inside; reads = λ x K. capped x K ∙ b.reads x K }

      pub is_number : (n : ℕ) (d d' : List ℕ) {end v : ℕ} → IsValue s (at + 1) end v → Written d d' n (5 ∷ bytes_of argument_bytes v)
          → IsTail s at n d d' end (n + 1)
      unfolding entry_bytes
      is_number n d d' {end} {v} b w = record {
        rest = up_to v;
        reads = λ x K. capped x K ∙ b.reads x K;
        ahead = omega (arith, b.ahead);
        inside = b.inside;
        count = refl;
        few = omega (arith, b.ahead);
        written = w;
      }

    module _ (op : Op) (q : Some (Operator op) ≡ sign_of (get_or s at 0)) where
      operated : (x : Pattern) (K : List Frame)
          → read_from (have x (first ∷ K)) (drop at s) ≡ read_from (want (second op x ∷ K)) (drop (at + 1) s)
      operated x K = run_to s at (have x (first ∷ K)) _ h (ap (after_sign x K) (sym q))

      pub no_operand : {p : ℕ} → NoExpression s (at + 1) p → NoTail s at p
      no_operand b = record { inside = b.inside; reads = λ x K. operated x K ∙ b.reads (second op x ∷ K) }

      pub is_operand : {n : ℕ} {d d₁ : List ℕ} (d₂ : List ℕ) {end m : ℕ} → IsExpression s (at + 1) n d d₁ end m
          → Written d₁ d₂ m (op_number op ∷ bytes_of argument_bytes 0) → IsTail s at n d d₂ end (m + 1)
      unfolding entry_bytes
      is_operand {n} {d} {d₁} d₂ {end} {m} b w = record {
        rest = by op b.tree;
        reads = λ x K. operated x K ∙ b.reads (second op x ∷ K) ∙ second_shut s end op x b.tree K;
        ahead = omega (arith, b.ahead);
        inside = b.inside;
        count = omega (arith, b.count);
        few = omega (arith, b.few);
        written = written_after d d₁ d₂ n m b.tree (entry_bytes argument_bytes (Pair op)) b.count b.written w;
      }
