pub mod Answers
pub mod Tabled
