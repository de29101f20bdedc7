pub mod Parameters
pub mod Roles
pub mod Words
