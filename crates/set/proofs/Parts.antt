-- A state at the front of a slice: the words that it has are a state without words beyond, and those after them are the words beyond.
-- Assumes nothing.
use Rattle.std.specs.Prelude.{Some}
use Prim.Native.Nat.{ℕ, ◌-◌, ◌≤◌}
use mathlib.Core.Path.{◌≡◌, sym, ap, ◌∙◌}
use mathlib.Core.Bool.{true}
use mathlib.Core.List.{List, [], append-nil}
use native.Mathlib.Omega.{arith}
use lib.ListN.{length, take, drop, length-append}
use lib.Seq.{take_at, drop_at}
use Rattle.watcher.specs.State.{next_of, state_of, InForm}
use Rattle.watcher.specs.inner.Walk.{formed, extent}
use Rattle.watcher.proofs.States.{next_word}
use Rattle.watcher.proofs.Judges.{formed_exactly, extent_formed, in_form_extent, in_form_cells}

-- what lies beyond a state is fixed by the words
pub same_beyond : {s : List ℕ} (f g : InForm s) → f.beyond ≡ g.beyond
same_beyond {s} f g = let e : Some f.beyond ≡ Some g.beyond = sym (in_form_cells s f) ∙ in_form_cells s g in cc

-- a state that was counted
module _ (s : List ℕ) {n : ℕ} (e : extent s ≡ Some n) where
  abbrev pub state : InForm s
  state = (formed_exactly s).0 (extent_formed s e)

  abbrev own : List ℕ
  own = state_of state.pattern state.next state.memory

  counted : n ≡ length s - length state.beyond
  counted = let q : Some n ≡ Some (length s - length state.beyond) = sym e ∙ in_form_extent s state in cc

  own_long : length own ≡ n
  own_long = omega (arith, counted, ap length state.same, length-append own state.beyond)

  pub extent_le : n ≤ length s
  extent_le = omega (arith, counted)

  taken : take n s ≡ own
  taken = ap (take n) state.same ∙ take_at own state.beyond n own_long

  pub beyond_is : drop n s ≡ state.beyond
  beyond_is = ap (drop n) state.same ∙ drop_at own state.beyond n own_long

  -- the state alone
  abbrev alone : InForm (take n s)
  alone = record {
    pattern = state.pattern;
    next = state.next;
    memory = state.memory;
    beyond = [];
    bodied = state.bodied;
    early = state.early;
    form = state.form;
    same = taken ∙ sym (append-nil own);
  }

  pub alone_formed : formed (take n s) ≡ true
  alone_formed = (formed_exactly (take n s)).1 alone

  pub alone_next : next_of (take n s) ≡ next_of s
  alone_next = next_word alone ∙ sym (next_word state)

  pub alone_beyond : (g : InForm (take n s)) → g.beyond ≡ []
  alone_beyond g = same_beyond g alone
