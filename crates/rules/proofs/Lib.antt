pub mod Impossible
pub mod Lists
pub mod Decisions
pub mod Bits
pub mod Facts
