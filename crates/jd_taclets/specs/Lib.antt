pub mod Conditions
pub mod Taclets
pub mod Writing
pub mod WorkedRows
