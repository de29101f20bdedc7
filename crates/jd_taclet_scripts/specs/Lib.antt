pub mod Given
pub mod Places
pub mod Steps
pub mod Causes
pub mod Laws
pub mod WorkedSteps
