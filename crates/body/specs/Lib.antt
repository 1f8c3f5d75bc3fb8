pub mod Bytes
pub mod Entry
pub mod Postfix
pub mod Check
pub mod Claim
pub mod inner
