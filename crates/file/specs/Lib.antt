pub mod Contents
pub mod Check
pub mod Ready
pub mod Write
pub mod Place
pub mod Lookup
pub mod Judged
pub mod Claim
