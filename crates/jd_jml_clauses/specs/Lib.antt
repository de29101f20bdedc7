pub mod Locating
pub mod Meaning
