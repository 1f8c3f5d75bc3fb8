pub mod Runs
pub mod Answer
pub mod Whole
pub mod Chunk
pub mod Claim
pub mod inner
