-- Each claim of specs/Claim, proved. Assumes nothing.
use native.Mathlib.Omega.{arith}
use Rattle.refusal.specs.declared.Refusal.TheVariants.{Long, Syntax, Many, Count, Entry, Size, Body, Room, State, Range, Late, Record, Full, Line, Absent}
use Rattle.refusal.specs.Table.{packed_of}
use Rattle.refusal.specs.Claim.{Numbered, Unpacks}

pub numbered : Numbered
numbered Long = (omega arith, omega arith)
numbered (Syntax bytes) = (omega arith, omega arith)
numbered Many = (omega arith, omega arith)
numbered Count = (omega arith, omega arith)
numbered (Entry index) = (omega arith, omega arith)
numbered Size = (omega arith, omega arith)
numbered (Body fault) = (omega arith, omega arith)
numbered (Room needed) = (omega arith, omega arith)
numbered (State index) = (omega arith, omega arith)
numbered (Range index) = (omega arith, omega arith)
numbered (Late index) = (omega arith, omega arith)
numbered Record = (omega arith, omega arith)
numbered Full = (omega arith, omega arith)
numbered Line = (omega arith, omega arith)
numbered Absent = (omega arith, omega arith)

pub unpacks : Unpacks
unfolding packed_of
unpacks r =
    let n = numbered r in
    record { number = omega (arith, n); place = omega (arith, n); entry = omega (arith, n); free = omega (arith, n) }
