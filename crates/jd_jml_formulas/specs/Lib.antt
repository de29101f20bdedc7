pub mod Spellings
pub mod Meant
pub mod Limits
