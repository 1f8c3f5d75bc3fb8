pub mod Words
pub mod Cell
pub mod Form
pub mod Pairs
pub mod Calls
