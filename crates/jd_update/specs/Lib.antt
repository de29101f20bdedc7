pub mod Replace
pub mod Push
pub mod Places
pub mod Fits
pub mod Binderless
