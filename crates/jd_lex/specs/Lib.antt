pub mod Signs
pub mod Bytes
pub mod Parts
pub mod Lens
pub mod Lexing
pub mod Places
pub mod View
