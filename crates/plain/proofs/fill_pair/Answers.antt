-- `plain::fill_pair` meets its contract: the rows made from entry k on are read from those before it. Assumes nothing.
use Rattle.std.proofs.Common.{arith}
use Rattle.plain.proofs.Fills.{rule_after}
use Rattle.plain.proofs.fill_pair.Goals as goal

pub returns-in-Either : goal.returns-in-Either
returns-in-Either c =
    let s = c.split_at_mut-before.ensures in
    rule_after _ _ _ _ _ _ _ _ _ _ _ c.requires.0 c.requires.1 (omega (arith, c.requires.2)) s.value s.front s.front_len
    c.entry_rows-left.ensures c.entry_rows-right.ensures c.in-Either.is c.fill_either.ensures

pub returns-in-Both : goal.returns-in-Both
returns-in-Both c =
    let s = c.split_at_mut-before.ensures in
    rule_after _ _ _ _ _ _ _ _ _ _ _ c.requires.0 c.requires.1 (omega (arith, c.requires.2)) s.value s.front s.front_len
    c.entry_rows-left.ensures c.entry_rows-right.ensures c.in-Both.is c.fill_both.ensures

pub returns-in-Without : goal.returns-in-Without
returns-in-Without c =
    let s = c.split_at_mut-before.ensures in
    rule_after _ _ _ _ _ _ _ _ _ _ _ c.requires.0 c.requires.1 (omega (arith, c.requires.2)) s.value s.front s.front_len
    c.entry_rows-left.ensures c.entry_rows-right.ensures c.in-Without.is c.fill_without.ensures

pub returns-in-Chain : goal.returns-in-Chain
returns-in-Chain c =
    let s = c.split_at_mut-before.ensures in
    rule_after _ _ _ _ _ _ _ _ _ _ _ c.requires.0 c.requires.1 (omega (arith, c.requires.2)) s.value s.front s.front_len
    c.entry_rows-left.ensures c.entry_rows-right.ensures c.in-Chain.is c.fill_chain.ensures
