pub mod Table
pub mod Claim
