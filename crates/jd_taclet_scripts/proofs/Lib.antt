pub mod Patterns
pub mod WithoutBodies
pub mod Occurring
pub mod Places
pub mod Steps
pub mod Rows
pub mod Worked
