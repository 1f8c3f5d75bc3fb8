-- The judge of a set, a turn at a time: the states so far are in form, their ends are kept, and so is the lowest late one. Assumes nothing.
use Rattle.std.specs.Prelude.{Option, Some, None}
use Prim.Native.Nat.{ℕ, ◌+◌, ◌≤◌, ◌<◌}
use mathlib.Core.Path.{◌≡◌, refl, sym, ◌∙◌}
use mathlib.Core.List.{List}
use native.Mathlib.Decide.{dec_lt}
use lib.Dec.{ltb}
use borrow.Author.Tests.{lt-ltb, le-ltb}
use native.Mathlib.Numerals.{add-one}
use native.Mathlib.Omega.{arith}
use lib.ListN.{length, get_or, drop, replicate, set, length-set, length-drop}
use lib.Seq.{drop-drop, get_or-set_same, get_or-set_other}
use Rattle.std.specs.Option.{option_or}
use Rattle.std.specs.Bool.{then_some}
use Rattle.rules.proofs.Impossible.{impossible}
use Rattle.rules.specs.Limits.{most_patterns, ticks}
use Rattle.refusal.specs.declared.Refusal.TheVariants.{State, Late}
use Rattle.watcher.specs.State.{next_of, InForm}
use Rattle.watcher.specs.inner.Walk.{extent}
use Rattle.set.specs.Set.{Past, none, more, Fault, broken, below}
use Rattle.set.specs.inner.Calls.{PartAt, PartsReady}
use Rattle.watcher.proofs.States.{next_word}
use Rattle.watcher.proofs.Judges.{formed_exactly, extent_broken}
use Rattle.set.proofs.Parts.{state, beyond_is, extent_le}

-- the lowest late state among i: none, or one that was found
pub data Lates (n : ℕ) (s : List ℕ) (t : ℕ) (ends : List ℕ) (i at : ℕ) : Option ℕ → Type 0 where
  allowed : Past t i s (drop at s) → ((k : ℕ) → k < i → next_of (drop (get_or ends k 0) s) ≤ t) → Lates n s t ends i at None
  found : {k : ℕ} → k < n → (l : List ℕ) → Past t k s l → (f : InForm l) → t < f.next → Lates n s t ends i at (Some k)

-- before state i, which begins at a place
pub record Judging (n : ℕ) (s : List ℕ) (t : ℕ) (ends : List ℕ) (i at : ℕ) (late : Option ℕ) : Type 0 where
  pub within : at ≤ length s
  pub long : length ends ≡ most_patterns + 1
  pub first : get_or ends 0 0 ≡ 0
  pub place : at ≡ get_or ends i 0
  pub past : Past ticks i s (drop at s)
  pub parts : (k : ℕ) → k < i → PartAt s (get_or ends k 0) (get_or ends (k + 1) 0)
  pub lates : Lates n s t ends i at late

pub judging_start : (n : ℕ) (s : List ℕ) (t : ℕ) → Judging n s t (replicate (most_patterns + 1) 0) 0 0 None
judging_start n s t = record {
  within = omega arith;
  long = refl;
  first = refl;
  place = refl;
  past = none;
  parts = λ k h. absurd (omega arith);
  lates = allowed none (λ k h. absurd (omega arith));
}

-- a value put after place i leaves those up to it
kept_up_to : (ends : List ℕ) (i k v : ℕ) → k ≤ i → get_or (set ends (i + 1) v) k 0 ≡ get_or ends k 0
kept_up_to ends i k v h = get_or-set_other ends (i + 1) k v 0 (λ e. omega arith)

-- the end: a late state, or none
judged_late : {n : ℕ} {s : List ℕ} {t : ℕ} {ends : List ℕ} {at k : ℕ} → Past ticks n s (drop at s) → Lates n s t ends n at (Some k) → Fault n s t (Late k)
judged_late {s = s} {at = at} {k = k} past (found l m p f q) = below k m (drop at s) l past p f q refl

judged_none : {n : ℕ} {s : List ℕ} {t : ℕ} {ends : List ℕ} {at : ℕ} → Lates n s t ends n at None → (j : ℕ) → j < n → next_of (drop (get_or ends j 0) s) ≤ t
judged_none (allowed p f) j l = f j l

module _ {n : ℕ} {s : List ℕ} {t : ℕ} {ends : List ℕ} {i at : ℕ} {late : Option ℕ} (x : Judging n s t ends i at late) (e : i ≡ n) where
  pub judging_late : {k : ℕ} → late ≡ Some k → Fault n s t (Late k)
  judging_late q = judged_late (rw e at x.past) (rw (e, q) at x.lates)

  pub judging_end : late ≡ None → PartsReady n s t ends
  judging_end q =
      record { first = x.first; each = λ j l. record { part = x.parts j (omega arith); late = judged_none (rw (e, q) at x.lates) j l } }

module _ {n : ℕ} {s : List ℕ} {t : ℕ} {ends : List ℕ} {i at : ℕ} {late : Option ℕ} (x : Judging n s t ends i at late) (h : i < n) where
  -- a state not in form
  pub judging_broken : extent (drop at s) ≡ None → Fault n s t (State i)
  judging_broken e =
      broken i (drop at s) h x.past (λ f. let a = extent_broken (drop at s) e in let b = (formed_exactly (drop at s)).1 f in impossible cc) refl

  module _ (few : n ≤ most_patterns) {words : ℕ} (q : extent (drop at s) ≡ Some words) where
    abbrev f : InForm (drop at s)
    f = state (drop at s) q

    onward : f.beyond ≡ drop (at + words) s
    onward = sym (beyond_is (drop at s) q) ∙ drop-drop words at s

    pub judging_within : at + words ≤ length s
    judging_within = omega (arith, extent_le (drop at s) q, length-drop at s, x.within)

    -- its place is put where state i + 1 begins
    abbrev to : ℕ
    to = at + words

    ends' : List ℕ
    ends' = set ends (i + 1) to

    before : (k : ℕ) → k ≤ i → get_or ends' k 0 ≡ get_or ends k 0
    unfolding ends'
    before k l = kept_up_to ends i k to l

    here : get_or ends' (i + 1) 0 ≡ to
    unfolding ends'
    here = get_or-set_same ends (i + 1) to 0 (omega (arith, x.long))

    past_more : (τ : ℕ) → Past τ i s (drop at s) → f.next ≤ τ → Past τ (i + 1) s (drop to s)
    past_more τ p l = rw (add-one i, ← onward) (more p f l)

    each : (P : ℕ → ℕ → Type 0) → ((k : ℕ) → k < i → P (get_or ends k 0) (get_or ends (k + 1) 0)) → P at to
        → (k : ℕ) → k < i + 1 → P (get_or ends' k 0) (get_or ends' (k + 1) 0)
    each P o p k l = go (dec_lt k i)
      where
        go : Dec (k < i) → P (get_or ends' k 0) (get_or ends' (k + 1) 0)
        go (yes d) = rw (before k (omega arith), before (k + 1) (omega arith)) (o k d)
        go (no d) =
            let z : k ≡ i = omega arith in
            rw (z, before i (omega arith), here, ← x.place) p

    lates_more : Lates n s t ends' (i + 1) to (option_or late (then_some (ltb t (next_of (drop at s))) i))
    lates_more = go x.lates (dec_lt t (next_of (drop at s)))
      where
        next : next_of (drop at s) ≡ f.next
        next = next_word f

        go : {late : Option ℕ} → Lates n s t ends i at late → Dec (t < next_of (drop at s))
            → Lates n s t ends' (i + 1) to (option_or late (then_some (ltb t (next_of (drop at s))) i))
        go (found l m p g u) y = found l m p g u
        go (allowed p o) (yes u) = rw (lt-ltb t (next_of (drop at s)) u) (found h (drop at s) p f (omega (arith, next)))
        go (allowed p o) (no u) =
            rw (le-ltb t (next_of (drop at s)) (omega arith))
            (allowed (past_more t p (omega (arith, next))) (each (λ (k m : ℕ). next_of (drop k s) ≤ t) o (omega (arith, next))))

    pub judging_more : {late' : Option ℕ} → late' ≡ option_or late (then_some (ltb t (next_of (drop at s))) i)
        → Judging n s t (set ends (i + 1) (at + words)) (i + 1) (at + words) late'
    unfolding ends'
    judging_more e = record {
      within = judging_within;
      long = length-set ends (i + 1) to ∙ x.long;
      first = before 0 (omega arith) ∙ x.first;
      place = sym here;
      past = past_more ticks x.past f.early;
      parts = each (PartAt s) x.parts (record { words = words; form = q; end = refl });
      lates = rw e lates_more;
    }
