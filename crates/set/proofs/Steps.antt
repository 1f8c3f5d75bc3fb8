-- The steps of a set, a turn at a time: the states ahead are as they were, and once they are stepped all are. Assumes nothing.
use Prim.Native.Nat.{ℕ, suc, ◌+◌, ◌-◌, ◌≤◌, ◌<◌}
use mathlib.Core.Path.{◌≡◌, refl, sym, ap, subst, ◌∙◌}
use mathlib.Core.List.{List, [], ◌∷◌, ◌++◌, append_assoc, append-nil}
use native.Mathlib.Numerals.{add-one}
use native.Mathlib.Omega.{arith}
use lib.ListN.{length, get_or, take, drop, set, length-set, length-drop, take-append-drop}
use lib.Seq.{drop-set-lt, take-suc-set}
use borrow.Rule.Slice.PartMut.{mid_of, put_mid, same_len_mid, Post-is, mid_len, drop_put}
use Rattle.watcher.specs.Answer.{TickReady, IsTicked}
use Rattle.set.specs.Set.{SetTicked, none, more}
use Rattle.set.specs.inner.Calls.{PartReady, Ready, Done}
use Rattle.watcher.proofs.Calls.{tick_ready}
use Rattle.std.proofs.lemmas.Slice.{take-put_mid}
use Rattle.set.proofs.Parts.{extent_le, alone_formed, alone_next, alone_beyond}

-- before state i: s is the slice and new the answers, so far
pub record Stepping (n : ℕ) (s₀ : List ℕ) (t w : ℕ) (ends old s new : List ℕ) (i : ℕ) : Type 0 where
  pub inside : i ≤ n
  pub state_long : length s ≡ length s₀
  pub long : length new ≡ length old
  pub within : get_or ends i 0 ≤ length s₀
  pub ahead : drop (get_or ends i 0) s ≡ drop (get_or ends i 0) s₀
  pub rest : (r l : List ℕ) → SetTicked t w (n - i) (drop (get_or ends i 0) s₀) r l → SetTicked t w n s₀ (take (get_or ends i 0) s ++ r) (take i new ++ l)
  pub kept : drop n new ≡ drop n old

module _ {n : ℕ} {s₀ : List ℕ} {t w : ℕ} {ends old s new : List ℕ} {i : ℕ} (r : Ready n s₀ t ends old)
    (x : Stepping n s₀ t w ends old s new i) where
  pub stepping_end : n ≤ i → Done n s₀ t w old s new
  stepping_end h =
      let e : n - i ≡ 0 = omega arith in
      let d : i ≡ n = omega (arith, x.inside) in
      let z : SetTicked t w (n - i) (drop (get_or ends i 0) s₀) (drop (get_or ends i 0) s₀) [] = rw e none in
      record {
        taken =
            subst (λ (k : ℕ). SetTicked t w n s₀ s (take k new)) d
            (rw (← x.ahead, take-append-drop, append-nil) at (x.rest (drop (get_or ends i 0) s₀) [] z));
        kept = x.kept;
      }

  module _ (h : i < n) where
    abbrev at : ℕ
    at = get_or ends i 0

    abbrev end : ℕ
    end = get_or ends (i + 1) 0

    -- state i, with what is ahead of it
    abbrev ahead : List ℕ
    ahead = drop at s₀

    abbrev part : PartReady s₀ t at end
    part = r.parts.each i h

    -- the words of state i
    abbrev own : ℕ
    own = part.part.words

    words : end - at ≡ own
    words = omega (arith, part.part.end)

    pub stepping_ends : at ≤ end
    stepping_ends = omega (arith, part.part.end)

    pub stepping_within : end ≤ length s
    stepping_within = omega (arith, part.part.end, extent_le ahead part.part.form, length-drop at s₀, x.within, x.state_long)

    mine : mid_of at (end - at) s ≡ take own ahead
    mine = rw (words, x.ahead)

    -- it takes the tick
    pub stepping_ready : TickReady (mid_of at (end - at) s) t
    stepping_ready =
        rw mine (tick_ready r.range (alone_formed ahead part.part.form) (omega (arith, alone_next ahead part.part.form, part.late)))

    module _ (p : List ℕ) (a : ℕ) (d : IsTicked (mid_of at (end - at) s) p t w a) (l : length p ≡ length (mid_of at (end - at) s)) where
      ticked : IsTicked (take own ahead) p t w a
      ticked = rw mine at d

      length_part : length p ≡ end - at
      length_part = l ∙ mid_len at end s stepping_within

      split : ahead ≡ take own ahead ++ drop end s₀
      split =
          sym (take-append-drop own ahead)
          ∙ ap (λ (z : List ℕ). take own ahead ++ z) (rw (← words) (Post-is at end s₀ stepping_ends))

      front : take end (put_mid at (end - at) s p) ≡ take at s ++ p
      front = take-put_mid at (end - at) s p end (omega (arith, length_part, stepping_ends)) (omega (arith, stepping_ends, stepping_within))

      -- it is stepped, and its answer written
      pub stepping_more : Stepping n s₀ t w ends old (put_mid at (end - at) s p) (set new i a) (i + 1)
      stepping_more = record {
        inside = omega arith;
        state_long = same_len_mid at (end - at) s p l ∙ x.state_long;
        long = length-set new i a ∙ x.long;
        within = omega (arith, stepping_within, x.state_long);
        ahead =
            drop_put at end s p stepping_ends stepping_within length_part
            ∙ sym (Post-is at end s stepping_ends)
            ∙ ap (drop (end - at)) x.ahead
            ∙ Post-is at end s₀ stepping_ends;
        rest = λ m k y. more_rest m k y;
        kept = drop-set-lt n new i a h ∙ x.kept;
      }
        where
          more_rest : (m k : List ℕ) → SetTicked t w (n - (i + 1)) (drop end s₀) m k
              → SetTicked t w n s₀ (take end (put_mid at (end - at) s p) ++ m) (take (i + 1) (set new i a) ++ k)
          more_rest m k y =
              let e : n - i ≡ suc (n - (i + 1)) = omega arith in
              let u : SetTicked t w (n - i) ahead (p ++ m) (a ∷ k) =
              rw e (more ticked (alone_beyond ahead part.part.form ticked.form) y split refl) in
              let j : i < length new = omega (arith, x.long, r.room) in
              rw (front, append_assoc (take at s) p, add-one i, take-suc-set new i a j, append_assoc (take i new) (a ∷ []))
              (x.rest (p ++ m) (a ∷ k) u)
