-- Whether entries are sound, a turn at a time, for a loop. Assumes nothing.
use Rattle.std.specs.Prelude.{None, Option, Some}
use mathlib.Core.Path.{◌≡◌, refl, sym, ap, ◌∙◌}
use mathlib.Core.Bool.{Bool, true, false, cond}
use Prim.Native.Nat.{ℕ, ◌+◌, ◌-◌, ◌<◌}
use lib.Dec.{eqb}
use Rattle.body.specs.declared.Entry.{Entry}
use Rattle.body.specs.Entry.{entries_by}
use Rattle.body.specs.Check.{depth_of, on_depth, scan}
use Rattle.body.proofs.Scan.{scan_turn, scan_end}
use Rattle.watcher.specs.inner.Walk.{is_none}

-- the entries from i on break no rule, with d trees there
abbrev pub sound_from : (ℕ → Entry) → ℕ → ℕ → ℕ → Bool
sound_from f n i d = is_none (scan (entries_by f i (n - i)) i d)

module _ (f : ℕ → Entry) (n i d : ℕ) where
  pub sound_turn : (e : ℕ) → i < n → depth_of (f i) d ≡ Some e → sound_from f n (i + 1) e ≡ sound_from f n i d
  sound_turn e h q = sym (ap is_none (scan_turn f n i d h) ∙ by q)
    where
      by : {z : Option ℕ} → z ≡ Some e → is_none (on_depth z (Some i) (λ g. scan (entries_by f (i + 1) (n - (i + 1))) (i + 1) g)) ≡ sound_from f n (i + 1) e
      by r = rw r

  pub sound_lacks : i < n → depth_of (f i) d ≡ None → false ≡ sound_from f n i d
  sound_lacks h q = sym (ap is_none (scan_turn f n i d h) ∙ by q)
    where
      by : {z : Option ℕ} → z ≡ None → is_none (on_depth z (Some i) (λ g. scan (entries_by f (i + 1) (n - (i + 1))) (i + 1) g)) ≡ false
      by r = rw r

  pub sound_end : i ≡ n → eqb d 1 ≡ sound_from f n i d
  sound_end h = sym (ap is_none (scan_end f n i d h) ∙ chosen (eqb d 1))
    where
      chosen : (t : Bool) → is_none (cond t None (Some n)) ≡ t
      chosen true = refl
      chosen false = refl
