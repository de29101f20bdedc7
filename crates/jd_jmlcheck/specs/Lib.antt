pub mod Answers
pub mod Specified
pub mod Views
