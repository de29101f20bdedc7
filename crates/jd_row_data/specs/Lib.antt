pub mod Data
pub mod Said
pub mod Names
pub mod Gives
pub mod Tables
