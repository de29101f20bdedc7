pub mod Assigning
pub mod Decided
