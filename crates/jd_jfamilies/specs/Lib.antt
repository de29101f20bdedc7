pub mod Listed
pub mod Overridden
