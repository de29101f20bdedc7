pub mod Binderless
pub mod Filtered
pub mod Like
pub mod Places
