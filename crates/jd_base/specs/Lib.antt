pub mod Arithmetic
pub mod Faults
pub mod InMemory
