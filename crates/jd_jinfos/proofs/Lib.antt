pub mod Owning
pub mod Together
