-- What a tick makes of a cell, put together from its parts. Assumes nothing.
use mathlib.Core.Path.{◌≡◌, refl, sym, ap, ◌∙◌}
use mathlib.Core.Bool.{true, false}
use mathlib.Core.List.{List, [], ◌∷◌}
use Prim.Native.Nat.{ℕ, ◌≤◌, ◌<◌, min, max}
use native.Mathlib.Decide.{dec_lt}
use native.Mathlib.Omega.{arith}
use lib.ListN.{length, get_or, set}
use Rattle.rules.specs.declared.Op.{Op}
use Rattle.rules.specs.declared.Op.TheVariants.{Either, Both, Without, Chain}
use Rattle.rules.proofs.Decisions.{pick_yes, pick_no}
use Rattle.detector.specs.Memory.{Span}
use Rattle.detector.specs.Choice.{choose}
use Rattle.cell.specs.Words.{span_at}
use Rattle.cell.specs.Cell.{pairs_of, becomes, cell_answer, cell_after}
use Rattle.cell.specs.Pairs.{put_span}
use Rattle.cell.specs.Calls.{is_cell, Stepped, StepAnswers, Renewed, kept_after}

-- the answer where it starts strictly later, else the pair
module _ (p : Span) (a e : ℕ) where
  pub becomes_answer : p.start < a → ◌≡◌ {A = Span} (record { start = a; end = e }) (becomes p a e)
  unfolding becomes
  becomes_answer h = sym (pick_yes (dec_lt p.start a) (record { start = a; end = e }) p h)

  pub becomes_left : a ≤ p.start → p ≡ becomes p a e
  unfolding becomes
  becomes_left h = sym (pick_no (dec_lt p.start a) (record { start = a; end = e }) p (λ k. omega arith))

-- `+`: left and right renewed
pub both_stepped :
    (t x y : ℕ) (ys c c₁ c₂ : List ℕ) (left right r : ℕ) → length c ≡ 4 → Renewed c 0 x t c₁ left → Renewed c₁ 2 y t c₂ right
    → r ≡ max (min x right) (min left y) → Stepped Both t x y ys c c₂ r
unfolding cell_answer cell_after
both_stepped t x y ys (a ∷ b ∷ d ∷ e ∷ []) c₁ c₂ left right r n l k h =
    let s : right ≡ (becomes (record { start = d; end = e }) y t).start =
    k.start ∙ ap (λ (z : List ℕ). (becomes (span_at z 2) y t).start) l.words in
    record {
      answer = rw (← s, ← l.start) h;
      after = k.words ∙ ap (λ (z : List ℕ). put_span z 2 (becomes (span_at z 2) y t)) l.words;
    }
both_stepped t x y ys [] c₁ c₂ left right r n l k h = absurd (omega arith)
both_stepped t x y ys (a ∷ []) c₁ c₂ left right r n l k h = absurd (omega arith)
both_stepped t x y ys (a ∷ b ∷ []) c₁ c₂ left right r n l k h = absurd (omega arith)
both_stepped t x y ys (a ∷ b ∷ d ∷ []) c₁ c₂ left right r n l k h = absurd (omega arith)
both_stepped t x y ys (a ∷ b ∷ d ∷ e ∷ f ∷ c) c₁ c₂ left right r n l k h = absurd (omega arith)

-- `-`: the latest start of y seen
one_word : (c : List ℕ) (v : ℕ) → length c ≡ 1 → set c 0 v ≡ v ∷ []
one_word (a ∷ []) v n = refl
one_word [] v n = absurd (omega arith)
one_word (a ∷ b ∷ c) v n = absurd (omega arith)

module _ (t x y : ℕ) (ys c : List ℕ) (seen : ℕ) (n : length c ≡ 1) (s : seen ≡ max (get_or c 0 0) y) where
  pub without_stands : seen < x → Stepped Without t x y ys c (set c 0 seen) x
  unfolding cell_answer cell_after
  without_stands h =
      record {
        answer = sym (pick_yes (dec_lt (max (get_or c 0 0) y) x) x 0 (omega arith));
        after = one_word c seen n ∙ ap (λ (k : ℕ). k ∷ []) s;
      }

  pub without_falls : x ≤ seen → Stepped Without t x y ys c (set c 0 seen) 0
  unfolding cell_answer cell_after
  without_falls h =
      record {
        answer = sym (pick_no (dec_lt (max (get_or c 0 0) y) x) x 0 (λ k. omega arith));
        after = one_word c seen n ∙ ap (λ (k : ℕ). k ∷ []) s;
      }

-- `;`: the kept pairs, and only then latest
pub chain_stepped :
    (t x y : ℕ) (ys c c₁ c₂ : List ℕ) (start r : ℕ) → 2 ≤ length c → c₁ ≡ kept_after ys c → Renewed c₁ 0 x t c₂ start
    → r ≡ (choose (pairs_of c) y).start → Stepped Chain t x y ys c c₂ r
unfolding cell_answer cell_after
chain_stepped t x y ys (a ∷ b ∷ l) c₁ c₂ start r n k h e =
    record {
      answer = e;
      after = h.words ∙ ap (λ (z : List ℕ). put_span z 0 (becomes (span_at z 0) x t)) k;
    }
chain_stepped t x y ys [] c₁ c₂ start r n k h e = absurd (omega arith)
chain_stepped t x y ys (a ∷ []) c₁ c₂ start r n k h e = absurd (omega arith)

-- `|`: the later start, and no words
pub either_stepped : (t x y : ℕ) (ys c : List ℕ) (r : ℕ) → r ≡ max x y → Stepped Either t x y ys c c r
unfolding cell_answer cell_after
either_stepped t x y ys c r e = record { answer = e; after = refl }

-- only the operator's cell is stepped
module _ {op : Op} {t x y : ℕ} {ys c c' : List ℕ} {r : ℕ} (q : is_cell op (length ys) (length c) ≡ true) where
  pub step_answers : Stepped op t x y ys c c' r → StepAnswers op t x y ys c c' r
  step_answers k = record { answer = rw q k.answer; after = rw q k.after }

  pub step_answered : StepAnswers op t x y ys c c' r → Stepped op t x y ys c c' r
  step_answered k = record { answer = rw q at k.answer; after = rw q at k.after }

pub step_left : (op : Op) (t x y : ℕ) (ys c : List ℕ) → is_cell op (length ys) (length c) ≡ false → StepAnswers op t x y ys c c 0
step_left op t x y ys c q = record { answer = rw q; after = rw q }
