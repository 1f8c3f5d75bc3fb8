pub mod Lines
pub mod Answer
pub mod Claim
pub mod inner
