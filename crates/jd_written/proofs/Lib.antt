pub mod Integers
pub mod Reading
pub mod ReadWords
pub mod Writing
