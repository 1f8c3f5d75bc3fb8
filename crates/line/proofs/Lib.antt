-- reading
pub mod Numbers
pub mod Letters
pub mod Parses
pub mod Readings
-- writing
pub mod Writings
-- the theorems
pub mod Theorem
