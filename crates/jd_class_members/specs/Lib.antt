pub mod Along
pub mod Distinct
