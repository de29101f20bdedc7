pub mod Standing
pub mod Sequences
mod Chaining
mod Exiting
mod Naming
