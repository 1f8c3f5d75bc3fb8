-- `watching::pieces::take` meets its contract, by the ways that a chunk is taken. Assumes nothing.
use native.Mathlib.Omega.{arith}
use lib.ListN.{take}
use Rattle.watching.specs.inner.Progress.{Progress}
use Rattle.watching.proofs.Progress.{writes_length, progress_then}
use Rattle.watching.proofs.Chunkings.{chunk_unroomed, chunk_unended, chunk_full, chunk_held}
use Rattle.watching.proofs.pieces.take.Goals as goal
use Rattle.watching.proofs.pieces.take.Goals.{After-take_lines-lines}

pub returns-then-out-lt-MOST_WRITTEN : goal.returns-then-out-lt-MOST_WRITTEN
returns-then-out-lt-MOST_WRITTEN c =
    chunk_unroomed c.min-kept.ensures c.requires c.if-out-lt-MOST_WRITTEN.true

pub returns-then-end-chunk : goal.returns-then-end-chunk
returns-then-end-chunk c =
    let whole = c.if-end-chunk.true in
    chunk_unended c.min-kept.ensures c.requires c.if-out-lt-MOST_WRITTEN.false (omega (arith, c.line_end-end.ensures, whole)) whole c.append.ensures

-- the lines taken, from the beginning of the chunk
lines_progress : (c : After-take_lines-lines)
    → let a = c.args in
    Progress a.run (take c.min-kept.result a.part.now) 0 0 a.chunk.now a.state.now c.take_lines-lines.new.state a.out.now
    c.take_lines-lines.new.out c.take_lines-lines.result
lines_progress c = progress_then c.take_joined-first.ensures c.take_lines-lines.ensures.progress

pub returns-then-out-lines-lt-MOST_WRITTEN : goal.returns-then-out-lines-lt-MOST_WRITTEN
returns-then-out-lines-lt-MOST_WRITTEN c =
    chunk_full c.min-kept.ensures c.requires (lines_progress (goal.at.returns-then-out-lines-lt-MOST_WRITTEN c).After-take_lines-lines) (omega (arith, c.if-out-lines-lt-MOST_WRITTEN.true, writes_length (lines_progress (goal.at.returns-then-out-lines-lt-MOST_WRITTEN c).After-take_lines-lines).writes))

pub returns : goal.returns
returns c =
    let left = c.if-out-lines-lt-MOST_WRITTEN.false in
    let long = writes_length (lines_progress (goal.at.returns c).After-take_lines-lines).writes in
    let stops = c.take_lines-lines.ensures.stops (omega (arith, left, long, writes_length c.take_joined-first.ensures.writes)) in
    chunk_held c.min-kept.ensures c.requires (lines_progress (goal.at.returns c).After-take_lines-lines) (omega (arith, left, long)) stops c.hold_rest.ensures
