pub mod Finds
pub mod Spelled
