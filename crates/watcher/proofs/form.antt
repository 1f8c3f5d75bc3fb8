-- What the proofs of the judge of a state use: the ways that its tests go, and the walk over the entries, a turn at a time.
pub mod Sounds
pub mod Formed
pub mod Judging
