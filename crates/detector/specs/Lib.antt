pub mod Memory
pub mod Possible
pub mod Choice
pub mod Step
pub mod Run
pub mod Form
pub mod Claim
