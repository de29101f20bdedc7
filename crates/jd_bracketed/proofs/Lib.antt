pub mod Passing
pub mod Words
pub mod Spelling
pub mod Pieces
pub mod Runs
pub mod Turns
pub mod Once
