-- `watcher::write_opened` meets its contract: two words, the entries and zeros make an opened state. Assumes nothing.
use Rattle.std.proofs.Common.{rules}
use mathlib.Core.Path.{◌≡◌}
use Prim.Native.Nat.{ℕ, ◌+◌, ◌-◌}
use lib.ListN.{replicate}
use Rattle.watcher.proofs.Puts.{opened_same, put_zeros}
use native.Mathlib.Omega.{arith}
use Rattle.watcher.proofs.write_opened.Goals as goal

pub returns : goal.returns
returns c =
    let n : ℕ = c.args.n in
    let zero : c.fill.new.self ≡ replicate c.args.cells 0 = search rules in
    opened_same c.args.body.now c.args.state.now c.write_entries.new.state _ n c.args.cells
    (omega (arith, c.requires.whole)) c.requires.cells_sum c.requires.room (search rules)
    c.write_entries.ensures
    (put_zeros (2 + n) (2 + n + c.args.cells - (2 + n)) c.args.cells c.write_entries.new.state c.fill.new.self (search rules) (omega arith) zero)
