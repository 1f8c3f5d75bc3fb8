pub mod Tallied
pub mod Claim
