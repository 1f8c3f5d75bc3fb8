pub mod Branches
pub mod Decimals
pub mod Written
