pub mod Answers
pub mod Given
pub mod Laws
pub mod Outcomes
