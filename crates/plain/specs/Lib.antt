pub mod Row
pub mod Rows
pub mod Answer
pub mod Claim
pub mod inner
