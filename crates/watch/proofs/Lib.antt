pub mod Givens
pub mod Theorem
