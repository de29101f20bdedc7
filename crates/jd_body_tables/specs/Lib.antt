pub mod Invariants
pub mod Rows
