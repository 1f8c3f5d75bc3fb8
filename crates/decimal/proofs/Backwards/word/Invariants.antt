-- `decimal::Backwards::word` meets its contract. The invariant: the last bytes are written, as far as there is room. Assumes nothing.
use Rattle.std.specs.Prelude.{◌≡◌, ◌+◌, min, length, reverse}
use Rattle.decimal.specs.Before.{Before}
use Rattle.decimal.proofs.Backwards.word.Given as goal

abbrev pub invariant-loop-byte : goal.invariant-loop-byte
invariant-loop-byte g l =
    Before g.row.N l.initial.self l.self (reverse l.yielded)
    × (length l.self ≡ min g.row.N (length l.initial.self + length (reverse l.yielded)))
