pub mod Texts
pub mod Kept
pub mod Tokens
pub mod Spelled
