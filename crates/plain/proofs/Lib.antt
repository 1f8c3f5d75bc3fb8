pub mod Sets
pub mod Masks
pub mod Fills
pub mod Steps
pub mod Ends
pub mod Loops
pub mod Answers
pub mod Theorem
