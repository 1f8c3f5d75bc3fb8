-- Each claim of specs/Claim, proved in Bodies, over the width of an argument. Assumes nothing.
use Prim.Native.Nat.{ℕ, ◌≤◌}
use Rattle.body.specs.Claim.{AcceptedExactly, OnePattern, RefusedLowest, LowestRefused, RefusedSize, Answered}
use Rattle.body.proofs.Bodies as Bodies

pub accepted_exactly : (width : ℕ) → 1 ≤ width → AcceptedExactly width
accepted_exactly = Bodies.accepted_exactly

pub one_pattern : (width : ℕ) → 1 ≤ width → OnePattern width
one_pattern = Bodies.one_pattern

pub refused_lowest : (width : ℕ) → RefusedLowest width
refused_lowest = Bodies.refused_lowest

pub lowest_refused : (width : ℕ) → LowestRefused width
lowest_refused = Bodies.lowest_refused

pub refused_size : (width : ℕ) → RefusedSize width
refused_size = Bodies.refused_size

pub answered : (width : ℕ) → Answered width
answered = Bodies.answered
