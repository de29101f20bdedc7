pub mod Parts
pub mod Matches
