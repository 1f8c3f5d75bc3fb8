-- bytes and numbers
pub mod Steps
pub mod Bytes
pub mod Numbers
pub mod Copies
-- reading
pub mod Entries
pub mod Ways
pub mod Complete
pub mod Begun
pub mod Sound
pub mod Readings
-- printing
pub mod Trees
pub mod Lengths
pub mod Printings
-- the theorems
pub mod Decided
pub mod Theorem
