pub mod Called
pub mod Least
pub mod Names
pub mod Programs
