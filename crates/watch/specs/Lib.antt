pub mod Watch
pub mod Claim
