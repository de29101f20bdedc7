pub mod Applying
pub mod Meaning
