pub mod Decimal
pub mod Before
