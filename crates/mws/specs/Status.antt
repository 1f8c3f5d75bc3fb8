-- What the calls for C promise: what the call behind each promises, a status word, and that a number lent for the answer is written only if the
-- call is accepted (docs/RULES.md, "Refusals"). Assumes nothing: these are definitions.
use Rattle.std.specs.Prelude.{◌≡◌, ℕ, ◌+◌, ◌^◌, Option, Result, Ok, Err}
use Rattle.refusal.specs.declared.Refusal.{Refusal}
use Rattle.refusal.specs.declared.Refusal.TheVariants as Refusals
use Rattle.refusal.specs.Table.{packed_of}
use Rattle.file.specs.declared.Whose.{Whose}
use Rattle.file.specs.declared.Whose.TheVariants.{Site, Fleet}
use Rattle.file.specs.declared.Found.{Found}
use Rattle.file.specs.declared.LookupError.{LookupError}
use Rattle.file.specs.declared.LookupError.TheVariants.{Broken, Absent}
use Rattle.plain.specs.Row.{IsLatest}
use Rattle.plain.specs.Claim.{start_number}

-- what an answer is to C: accepted, with the number that the call gives (0 where it gives none), or refused
pub data Outcome : Type 0 where
  accepted : ℕ → Outcome
  refused : Refusal → Outcome

-- the status word
abbrev pub status_of : Outcome → ℕ
status_of (accepted n) = 0
status_of (refused r) = packed_of r

-- the number lent for the answer, afterwards
abbrev pub number_after : Outcome → ℕ → ℕ
number_after (accepted n) old = n
number_after (refused r) old = old

-- a call for C: the call behind it gave an answer as it promises, and the status word and the number lent are those of that answer
pub record Told {A : Type 0} (view : A → Outcome) (Promise : A → Type 0) (number number' status : ℕ) : Type 0 where
  pub answer : A
  pub promise : Promise answer
  pub lent : number' ≡ number_after (view answer) number
  pub word : status ≡ status_of (view answer)

-- the same for a call that is lent no number
abbrev pub Done : {A : Type 0} → (A → Outcome) → (A → Type 0) → ℕ → Type 0
Done view Promise status = Told view Promise 0 0 status

-- the answer of a call that gives nothing
abbrev pub done : Result (Unit {0}) Refusal → Outcome
done (Ok _) = accepted 0
done (Err r) = refused r

-- the answer of a call that gives a number, of bytes or of words
abbrev pub counted : Result ℕ Refusal → Outcome
counted (Ok n) = accepted n
counted (Err r) = refused r

-- a tick gives start + 1 of the window, or 0
abbrev pub ticking : Result (Option ℕ) Refusal → Outcome
ticking (Ok window) = accepted (start_number window)
ticking (Err r) = refused r

-- the latest start of a row: start + 1, or 0
pub record RowLatest (row result : ℕ) : Type 0 where
  pub start : Option ℕ
  pub promise : IsLatest row start
  pub number : result ≡ start_number start

-- a lookup: bits 48-51 have the file, 0 the site's and 1 the fleet's
abbrev pub file_bits : Whose → ℕ
file_bits Site = 0
file_bits Fleet = 2 ^ 48

abbrev pub lookup_status : Result Found LookupError → ℕ
lookup_status (Ok found) = file_bits found.whose
lookup_status (Err (Broken whose r)) = file_bits whose + packed_of r
lookup_status (Err Absent) = packed_of Refusals.Absent

-- where the part lies in its file, and its length
abbrev pub lookup_from : Result Found LookupError → ℕ → ℕ
lookup_from (Ok found) old = found.place.from
lookup_from (Err e) old = old

abbrev pub lookup_long : Result Found LookupError → ℕ → ℕ
lookup_long (Ok found) old = found.place.long
lookup_long (Err e) old = old

pub record LookedUp (answer : Result Found LookupError) (from from' long long' status : ℕ) : Type 0 where
  pub place : from' ≡ lookup_from answer from
  pub bytes : long' ≡ lookup_long answer long
  pub word : status ≡ lookup_status answer
