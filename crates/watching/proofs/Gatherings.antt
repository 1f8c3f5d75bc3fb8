-- Lines read many at once: where a line may end, a line found, and lines one after the other. Assumes nothing.
use Prim.Native.Nat.{ℕ, suc, ◌+◌, ◌-◌, ◌<◌, ◌≤◌}
use mathlib.Core.Path.{◌≡◌, sym, ap, ◌∙◌}
use mathlib.Core.List.{List, [], ◌∷◌, ◌++◌, append_assoc, append-nil}
use native.Mathlib.Numerals.{add-one}
use native.Mathlib.Omega.{arith}
use lib.ListN.{length, get_or, take, drop, set, length-set, length-drop}
use lib.Seq.{get_or-drop, drop-drop, take-suc-set}
use Rattle.line.specs.Answer.{IsTick}
use Rattle.watching.specs.inner.Progress.{line_length}
use Rattle.watching.specs.inner.Batch.{most_ticks, IsFound, MayEnd, TickLines, none, more, Gathers}
use Rattle.watching.proofs.LineFeeds.{tick_ends, feed_there}

-- a line may end where the line from a later place does
pub may_end : {input : List ℕ} {from place end : ℕ} → from ≤ place → place ≤ length input → end ≡ place + line_length (drop place input)
    → end ≤ length input → MayEnd input from end
may_end {input} {from} {place} {end} f g e h = record {
  after = omega arith;
  inside = h;
  feed = λ k. ap (λ (i : ℕ). get_or input i 0) e ∙ sym (get_or-drop place input (line_length (drop place input)) 0)
      ∙ feed_there (drop place input) (omega (arith, length-drop place input));
}

-- it does if a tick is read up to there
pub found_to : {input : List ℕ} {from t w end : ℕ} → MayEnd input from end → end < length input → IsTick (take (end - from) (drop from input)) t w
    → IsFound input from t w end
found_to {input} {from} {t} {w} {end} m h i = record {
  ends = record { place = tick_ends input from end m.after h (m.feed h) i; inside = h };
  read = i;
}

-- n lines are read up to a place: what is read from there on is read after them
pub record Gathering (input : List ℕ) (from : ℕ) (ts ws : List ℕ) (n at : ℕ) : Type 0 where
  pub few : n ≤ most_ticks
  pub inside : at ≤ length input
  pub ticks_long : length ts ≡ most_ticks
  pub events_long : length ws ≡ most_ticks
  pub leads : {us vs left : List ℕ} → TickLines (drop at input) us vs left → TickLines (drop from input) (take n ts ++ us) (take n ws ++ vs) left

module _ {input ts ws : List ℕ} {from n at : ℕ} (x : Gathering input from ts ws n at) where
  pub gathering_more : {t w end : ℕ} → n < most_ticks → IsFound input at t w end → Gathering input from (set ts n t) (set ws n w) (n + 1) (end + 1)
  gathering_more {t} {w} {end} h i =
      let long : end - at ≡ line_length (drop at input) = omega (arith, i.ends.place) in
      let past : at + suc (line_length (drop at input)) ≡ end + 1 = omega (arith, i.ends.place) in
      let next : drop (suc (line_length (drop at input))) (drop at input) ≡ drop (end + 1) input =
      drop-drop (suc (line_length (drop at input))) at input ∙ ap (λ (k : ℕ). drop k input) past in
      let ended : line_length (drop at input) < length (drop at input) = omega (arith, length-drop at input, i.ends.place, i.ends.inside) in
      record {
        few = omega arith;
        inside = omega (arith, i.ends.inside);
        ticks_long = length-set ts n t ∙ x.ticks_long;
        events_long = length-set ws n w ∙ x.events_long;
        leads = λ {us} {vs} k.
            rw (
              add-one n,
              take-suc-set ts n t (omega (arith, x.ticks_long)),
              take-suc-set ws n w (omega (arith, x.events_long)),
              append_assoc (take n ts) (t ∷ []) us,
              append_assoc (take n ws) (w ∷ []) vs,
            )
            (x.leads (more t w ended (rw long at i.read) (rw next k)));
      }

  pub gathering_end : Gathers input from ts ws (record { count = n; used = at })
  gathering_end = record { few = x.few; inside = x.inside; lines = rw (append-nil (take n ts), append-nil (take n ws)) at (x.leads none) }
