pub mod Set
pub mod File
pub mod Claim
pub mod inner
