-- What the functions of the crate promise each other, and devices of its proofs: no reader has to believe these.
pub mod Machine
