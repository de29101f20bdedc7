pub mod Causing
pub mod Tables
pub mod Rows
