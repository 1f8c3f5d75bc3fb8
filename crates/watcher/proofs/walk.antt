-- What the proofs of a tick use: where things stand in the arrays, what an operator leaves there, and the walk over the entries, a turn at a time.
pub mod Places
pub mod Stacks
pub mod Runs
pub mod Segments
pub mod Pairing
pub mod Merging
pub mod Walking
pub mod Stepping
