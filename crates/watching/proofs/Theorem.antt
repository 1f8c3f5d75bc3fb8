-- Each claim of specs/Claim, proved. Assumes nothing.
use Rattle.watching.specs.Claim.{LinesAgree, OutputAgrees, SoundAccepted, SoundPrinted, InputPrints, OutputBegins, OneChunk, OneEnd, RoomEnough}
use Rattle.watching.proofs.Whole as Whole
use Rattle.watching.proofs.Sounds as Sounds
use Rattle.watching.proofs.Given as goal
use Rattle.watching.proofs.Begins as Begins
use Rattle.watching.proofs.UniqueChunk as UniqueChunk
use Rattle.watching.proofs.Rooms as Rooms

pub lines_agree : LinesAgree
lines_agree = Whole.lines_agree

pub output_agrees : OutputAgrees
output_agrees = Whole.output_agrees

pub sound_accepted : SoundAccepted
sound_accepted = Sounds.sound_accepted

pub sound_printed : SoundPrinted
sound_printed = Sounds.sound_printed

pub input_prints : InputPrints
input_prints = goal.input_prints

pub output_begins : OutputBegins
output_begins = Begins.output_begins

pub one_chunk : OneChunk
one_chunk = UniqueChunk.one_chunk

pub one_end : OneEnd
one_end = UniqueChunk.one_end

pub room_enough : RoomEnough
room_enough = Rooms.room_enough
