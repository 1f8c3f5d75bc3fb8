-- `watching::pieces::line_end` meets its contract: the first line feed of the rest, or its end. Assumes nothing.
use mathlib.Core.Path.{◌≡◌, ap, ◌∙◌}
use Prim.Native.Nat.{ℕ, ◌+◌}
use native.Mathlib.Omega.{arith}
use lib.ListN.{drop}
use Rattle.std.specs.Prelude.{unwrap_or, length, Option}
use Rattle.std.proofs.lemmas.List.{take_rest}
use Rattle.watching.specs.inner.Progress.{line_length}
use Rattle.watching.proofs.TakingBytes.{feed_found, line_inside}
use Rattle.watching.proofs.pieces.line_end.Goals as goal

pub returns : goal.returns
returns c =
    let input = c.args.input.now in
    let from = c.args.from in
    let rest = drop from input in
    let found = rw (take_rest input from) at c.line_feed.ensures in
    let place : c.unwrap_or.result ≡ line_length rest =
    (rw (take_rest input from) at c.unwrap_or.ensures) ∙ ap (λ (o : Option ℕ). unwrap_or o (length rest)) found ∙ feed_found rest in
    (ap (λ (n : ℕ). from + n) place, omega (arith, place, line_inside input from c.requires))
