pub mod Status
pub mod Claim
