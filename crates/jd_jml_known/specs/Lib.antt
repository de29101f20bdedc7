pub mod Scopes
pub mod Members
