use native.Mathlib.Omega.{arith}
use Rattle.set.proofs.Files.{sound_holds}
use Rattle.set.proofs.Opens.{summing_start, summing_few, summing_end, summing_has, summing_small}
use Rattle.set.proofs.room_summed.Goals as goal

pub loop-i-init : goal.loop-i-init
loop-i-init c =
    let h = sound_holds c.args.file.now (λ j. omega (arith, c.type_inv.file j)) c.requires in
    summing_start _ c.pattern_count-count.ensures.0 h.1

pub room_at-words-requires : goal.room_at-words-requires
room_at-words-requires c = summing_has c.loop-i.invariant c.loop-i-test.true

pub overflow_add-words : goal.overflow_add-words
overflow_add-words c =
    let x = c.loop-i.invariant in
    omega (arith, summing_few x, summing_small x c.loop-i-test.true c.room_at-words.result c.room_at-words.ensures)

pub returns : goal.returns
returns c = summing_end c.loop-i.invariant (omega arith)
