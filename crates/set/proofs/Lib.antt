pub mod Parts
pub mod Judges
pub mod Steps
pub mod Files
pub mod Opens
pub mod Past
pub mod Alones
pub mod Theorem
