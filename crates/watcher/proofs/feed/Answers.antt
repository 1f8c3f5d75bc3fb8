-- `watcher::feed` meets its contract: the refusals in their order, then the steps one after the other. Assumes nothing.
use Prim.Native.Nat.{ℕ}
use mathlib.Core.Path.{refl, sym, ap, ◌∙◌}
use native.Mathlib.Omega.{arith}
use Rattle.std.proofs.lemmas.Result.{err_from_is_err_and}
use Rattle.watcher.specs.Feed.{first_fault}
use Rattle.watcher.proofs.Judges.{extent_formed, extent_broken}
use Rattle.watcher.proofs.Feeds.{fed_all, fed_broken, fed_faulty}
use Rattle.watcher.proofs.feed.Goals as goal

pub returns-in_default : goal.returns-in_default
returns-in_default c =
    (fed_broken _ _ _ _ (omega arith) (omega arith) (extent_broken _ (sym c.extent.ensures ∙ c.in_default.is)), refl, refl)

pub returns-in_err-first_fault : goal.returns-in_err-first_fault
returns-in_err-first_fault c =
    let p = err_from_is_err_and c.from_residual.result c.from_residual.ensures.1 in
    rw (p.1, p.2) (
      fed_faulty _ _ _ _ (omega arith) (omega arith) (extent_formed _ (sym c.extent.ensures ∙ c.in-Some.is)) _
          (sym (c.first_fault.ensures ∙ ap (λ (k : ℕ). first_fault 0 k c.args.ticks.now) c.next_tick.ensures) ∙ c.in_err-first_fault.was),
      refl,
      refl,
    )

pub returns : goal.returns
returns c =
    fed_all
    (record {
      form = extent_formed _ (sym c.extent.ensures ∙ c.in-Some.is);
      even = omega arith;
      room = omega arith;
      sound = sym (c.first_fault.ensures ∙ ap (λ (k : ℕ). first_fault 0 k c.args.ticks.now) c.next_tick.ensures) ∙ c.in_ok-first_fault.was;
    })
    c.steps.ensures
