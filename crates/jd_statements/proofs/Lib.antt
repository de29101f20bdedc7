mod Growing
mod Members
pub mod Sizes
pub mod Taken
