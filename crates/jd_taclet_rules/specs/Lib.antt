pub mod Machine
pub mod Goals
pub mod Premises
