pub mod Windows
pub mod Rows
pub mod Hold
