pub mod Printings
pub mod Writing
