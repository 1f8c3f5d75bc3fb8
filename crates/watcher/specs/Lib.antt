pub mod State
pub mod Answer
pub mod Feed
pub mod Claim
pub mod inner
