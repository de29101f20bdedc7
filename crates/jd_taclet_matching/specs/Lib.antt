pub mod Answers
pub mod Calm
pub mod Found
pub mod OwnedParts
pub mod Words
pub mod Given
pub mod Laws
