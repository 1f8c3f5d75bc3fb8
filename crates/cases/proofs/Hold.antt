-- All examples hold: those on windows by one test that computes, those on rows as proved. Assumes nothing.
use mathlib.Core.Path.{◌≡◌, refl}
use mathlib.Core.Bool.{Bool, true, false, cond}
use mathlib.Core.List.{List, [], ◌∷◌}
use native.Mathlib.Decide.{dec_le, dec_lt, ℕ_discrete}
use lib.Dec.{eqb}
use borrow.Author.Tests.{eqb-true}
use Rattle.rules.proofs.Decisions.{both_true}
use Rattle.rules.specs.Bits.{bit}
use Rattle.rules.specs.Lists.{All}
use Rattle.rules.specs.Pattern.{size}
use Rattle.detector.specs.Memory.{fresh}
use Rattle.detector.specs.Possible.{p}
use Rattle.detector.specs.Choice.{better, choose, insert, keep, gather}
use Rattle.detector.specs.Step.{later, answer, next}
use Rattle.cell.specs.Cell.{cell_words}
use Rattle.watcher.specs.State.{cell_room, room_of}
use Rattle.cases.specs.Cases.{Case, windows, rows, room, Holds, cases, AllHold}
use Rattle.cases.proofs.Windows.{given, seen}
use Rattle.cases.proofs.Rows.{chain_rows, both_rows}

-- the detector gives what every case on windows says
unfoldable tested : List Case → Bool
tested [] = true
tested (windows e l ∷ cs) = cond (given e (fresh e) 0 l) (tested cs) false
tested (rows e words shown ∷ cs) = tested cs
tested (room e n ∷ cs) = cond (eqb (room_of e) n) (tested cs) false

-- every case on rows holds
abbrev RowsHold : List Case → Type 0
RowsHold [] = Unit {0}
RowsHold (windows e l ∷ cs) = RowsHold cs
RowsHold (rows e words shown ∷ cs) = Holds (rows e words shown) × RowsHold cs
RowsHold (room e n ∷ cs) = RowsHold cs

hold : (cs : List Case) → tested cs ≡ true → RowsHold cs → All Holds cs
unfolding tested
hold [] t r = tt
hold (windows e l ∷ cs) t r = let q = both_true (given e (fresh e) 0 l) (tested cs) t in (seen e l q.0, hold cs q.1 r)
hold (rows e words shown ∷ cs) t r = (r.0, hold cs t r.1)
hold (room e n ∷ cs) t r = let q = both_true (eqb (room_of e) n) (tested cs) t in (eqb-true (room_of e) n q.0, hold cs q.1 r)

pub all_hold : AllHold
unfolding tested size cell_room cell_words p given answer next later choose better gather keep insert fresh bit dec_le dec_lt ℕ_discrete
all_hold = hold cases refl (chain_rows, (both_rows, tt))
