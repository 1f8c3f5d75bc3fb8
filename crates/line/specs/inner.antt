-- What the functions of the crate promise each other, and devices of its proofs: no reader has to believe these.
pub mod Scan
pub mod Number
