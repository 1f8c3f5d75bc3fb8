-- Each claim of specs/Claim, proved. Assumes nothing.
use mathlib.Core.List.{◌++◌}
use native.Mathlib.Omega.{arith}
use lib.ListN.{take}
use Rattle.watching.proofs.Theorem.{room_enough, input_prints, sound_printed, output_begins}
use Rattle.watch.specs.Claim.{WholeOutput, OutputBegun}

pub whole_output : WholeOutput
whole_output part part' state state₁ state' out out' p w h i e =
    let all = i.bytes ++ take w.bytes out' in
    let x = input_prints state state₁ state' part part' out out' i.input i.bytes p.taken.run p.taken.held w.bytes i.given e.answers in
    record {
      prints = x;
      sound = λ q ls s l. sound_printed state i.input all q ls s (omega (arith, room_enough s.pattern s.few)) x l;
    }

pub output_begun : OutputBegun
output_begun part part' state state' p i later right x =
    output_begins state state' part part' i.input later i.bytes right p.taken.run p.taken.held i.given x
