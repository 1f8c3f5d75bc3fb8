use Prim.Native.Nat.{◌+◌, ◌≤◌}
use mathlib.Core.Path.{refl}
use native.Mathlib.Omega.{arith}
use lib.ListN.{length}
use Rattle.set.proofs.Opens.{filling_end, filling_has, filling_within, filling_room}
use Rattle.set.proofs.open_all.Goals as goal
use Rattle.set.proofs.open_all.Goals.{After-room_at}

-- the state ends within the slice
within : (c : After-room_at)
    → let l = c.loop-i in
    l.from + c.room_at.result ≤ length l.states
within c =
    filling_within c.loop-i.invariant c.loop-i-test.true _ c.room_at.result c.room_at.ensures refl

pub room_at-requires : goal.room_at-requires
room_at-requires c = filling_has c.loop-i.invariant c.loop-i-test.true

pub overflow_add-to : goal.overflow_add-to
overflow_add-to c = omega (arith, within (goal.at.overflow_add-to c).After-room_at)

pub slice_bounds-open_at-end : goal.slice_bounds-open_at-end
slice_bounds-open_at-end c = within (goal.at.slice_bounds-open_at-end c).After-room_at

pub open_at-requires : goal.open_at-requires
open_at-requires c =
    filling_room c.loop-i.invariant c.loop-i-test.true _ c.room_at.result c.room_at.ensures refl

pub returns : goal.returns
returns c = filling_end c.loop-i.invariant (omega arith)
