-- What the judge of a state answers past its first tests. Assumes nothing.
use Rattle.std.specs.Prelude.{None, Option, Some}
use mathlib.Core.Path.{◌≡◌, refl}
use mathlib.Core.Bool.{Bool, true, false, cond}
use mathlib.Core.List.{List}
use Rattle.std.specs.Option.{is_some}
use Prim.Native.Nat.{ℕ, ◌+◌, ◌≤◌}
use lib.Dec.{leb}
use lib.ListN.{length}
use borrow.Author.Tests.{le-leb}
use Rattle.rules.specs.Limits.{most_entries, ticks}
use Rattle.watcher.specs.State.{header, count_of, next_of}
use Rattle.watcher.specs.inner.Walk.{judged, formed, end_by, extent}
use Rattle.watcher.specs.inner.Form.{sounds, cells_end, judged_end}

module _ (s : List ℕ) (least : 1 ≤ count_of s) (most : count_of s ≤ most_entries) (long : header + count_of s ≤ length s) where
  formed_unsound : sounds s ≡ false → false ≡ formed s
  unfolding formed sounds
  formed_unsound q = rw (le-leb 1 (count_of s) least, le-leb (count_of s) most_entries most, le-leb (header + count_of s) (length s) long, q)

  formed_sound : sounds s ≡ true → cond (leb (next_of s) ticks) (is_some (judged s)) false ≡ formed s
  unfolding formed sounds
  formed_sound q = rw (le-leb 1 (count_of s) least, le-leb (count_of s) most_entries most, le-leb (header + count_of s) (length s) long, q)

  -- what is judged last
  pub extent_judged : next_of s ≤ ticks → judged_end s ≡ extent s
  unfolding extent cells_end judged_end
  extent_judged h = go (sounds s) refl
    where
      kept : (n : ℕ) (o : Option (List ℕ)) → end_by n o ≡ cond (is_some o) (end_by n o) None
      kept n None = refl
      kept n (Some l) = refl

      go : (b : Bool) → sounds s ≡ b → cond (sounds s) (end_by (length s) (judged s)) None ≡ cond (formed s) (end_by (length s) (judged s)) None
      go true q = rw (q, ← formed_sound q, le-leb (next_of s) ticks h) (kept (length s) (judged s))
      go false q = rw (q, ← formed_unsound q)
