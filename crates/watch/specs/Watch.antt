-- What the watch program's functions did with what was read, and what they handed to the writer. Assumes nothing: these are definitions.
use Rattle.std.specs.Prelude.{Result, Ok, Err, Option, Some, None, ℕ, ◌≤◌, min, ◌≡◌, List, length, take}
use Rattle.std.specs.declared.io.Error.{Error}
use Rattle.watching.specs.Runs.{fresh}
use Rattle.watching.specs.Chunk.{most_held, most_finish, ChunkAnswers, FinishAnswers, Given}
use Rattle.watch.specs.declared.Fault.{Fault}
use Rattle.watch.specs.declared.Fault.TheVariants.{Read, Write}
use Rattle.watch.specs.declared.Progress.{Progress}
use Rattle.watch.specs.declared.Wrote.{Wrote}

-- what failed, by what the writer answered
abbrev pub write_fault : Result (Unit {0}) Error → Option Fault
write_fault (Ok _) = None
write_fault (Err why) = Some (Write why)

-- the words that there are for the state
abbrev pub state_words : ℕ
state_words = 4096

-- there is room for the state of any pattern, for the bytes held of a line, and for the output of finishing
pub record Enough (state part out : List ℕ) : Type 0 where
  pub words : state_words ≤ length state
  pub held : most_held ≤ length part
  pub room : most_finish ≤ length out

-- some of the input was taken, and what was written for it was handed to the writer
abbrev pub SomeTaken : Progress → List ℕ → List ℕ → List ℕ → List ℕ → List ℕ → List ℕ → List ℕ → Progress → Type 0
SomeTaken p input part part' state state' out out' r =
    ChunkAnswers p.taken.run p.taken.held input part part' state state' out out' (Ok r.taken)

-- the first bytes of a chunk were taken, all unless something failed, and the bytes for them were handed to the writer
pub record ChunkTaken (p : Progress) (chunk part part' state state' : List ℕ) (r : Progress) : Type 0 where
  pub used : ℕ
  pub bytes : List ℕ
  pub given : Given p.taken.run p.taken.held part state (take used chunk) r.taken.run r.taken.held part' state' bytes
  pub whole : r.fault ≡ None → used ≡ length chunk

-- what was read was taken, where the buffer holds it and the read answered this; a read that failed is noted, and nothing else is done
pub data ReadTaken (p : Progress) (got : Result ℕ Error) (buffer part part' state state' : List ℕ) (r : Progress) : Type 0 where
  some : {n : ℕ} → got ≡ Ok n → ChunkTaken p (take (min n (length buffer)) buffer) part part' state state' r
      → ReadTaken p got buffer part part' state state' r
  failed : {why : Error} → got ≡ Err why → r ≡ record { taken = p.taken; fault = Some (Read why) } → part' ≡ part → state' ≡ state
      → ReadTaken p got buffer part part' state state' r

-- an input, the chunks read one after the other as far as they were taken; and the bytes handed to the writer for it, one after the other
pub record InputTaken (part part' state state' : List ℕ) (r : Progress) : Type 0 where
  pub input : List ℕ
  pub bytes : List ℕ
  pub given : Given fresh 0 part state input r.taken.run r.taken.held part' state' bytes

-- the input was ended, and what was written then was handed to the writer
pub record InputEnded (p : Progress) (part state state' out out' : List ℕ) (w : Wrote) : Type 0 where
  pub answers : FinishAnswers p.taken.run p.taken.held part state state' out out' (Ok w.bytes)
