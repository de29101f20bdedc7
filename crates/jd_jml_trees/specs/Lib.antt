pub mod Meaning
pub mod Short
