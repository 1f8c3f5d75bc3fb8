use mathlib.Core.Path.{sym, ap, ◌∙◌}
use native.Mathlib.Omega.{arith}
use Rattle.rules.proofs.Lists.{drop_part}
use Rattle.file.specs.Contents.{spaces}
use Rattle.file.proofs.Names.{spaces_each, padded_turn}
use Rattle.file.proofs.name.is_name.Goals as goal

pub returns-then-not-is_name_byte-2 : goal.returns-then-not-is_name_byte-2
returns-then-not-is_name_byte-2 c =
    let n = c.args.name.now in
    let i = c.loop-i.i in
    spaces_each _ _ c.are_spaces.ensures
    ∙ ap spaces (drop_part n i)
    ∙ (rw (padded_turn n i (omega arith), sym c.is_name_byte-in-loop-i.ensures ∙ c.if-not-is_name_byte-2.true) at c.loop-i.invariant)
