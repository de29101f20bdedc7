pub mod OneAnswer
pub mod Parses
