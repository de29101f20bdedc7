pub mod Lent
pub mod Lines
pub mod Types
pub mod Places
pub mod Asked
