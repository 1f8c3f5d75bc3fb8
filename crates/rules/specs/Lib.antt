pub mod Limits
pub mod Bits
pub mod Lists
pub mod Decisions
pub mod Pattern
pub mod Instances
pub mod History
