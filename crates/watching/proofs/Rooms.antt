-- 4,096 words are enough: each of at most 31 pairs has a cell of at most 122 words. Assumes nothing.
use Prim.Native.Nat.{ℕ, ◌+◌, ◌*◌, ◌≤◌}
use native.Mathlib.Omega.{arith}
use Rattle.detector.proofs.Form.{p_size}
use Rattle.rules.specs.declared.Op.{Op}
use Rattle.rules.specs.declared.Op.TheVariants.{Either, Both, Without, Chain}
use Rattle.rules.specs.Limits.{most_entries}
use Rattle.rules.specs.Pattern.{Pattern, event, pair, within, size}
use Rattle.detector.specs.Possible.{p}
use Rattle.cell.specs.Cell.{cell_words}
use Rattle.watcher.specs.State.{cell_room}
use Rattle.watching.specs.Claim.{RoomEnough}

words_few : (op : Op) (y : ℕ) → y ≤ 60 → cell_words op y ≤ 122
unfolding cell_words
words_few Either y h = omega arith
words_few Both y h = omega arith
words_few Without y h = omega arith
words_few Chain y h = omega arith

cells_few : (e : Pattern) → size e ≤ most_entries → 2 * cell_room e + 122 ≤ 122 * size e
unfolding cell_room size
cells_few (event n) h = omega arith
cells_few (pair op x y) h =
    let a = p_size x in
    let b = p_size y in
    omega (arith, cells_few x (omega arith), cells_few y (omega arith), words_few op (p y) (omega arith))
cells_few (within x n) h = omega (arith, cells_few x (omega arith))

pub room_enough : RoomEnough
room_enough e h = omega (arith, cells_few e h)
