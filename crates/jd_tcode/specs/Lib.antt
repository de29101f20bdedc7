pub mod Behind
pub mod Makers
pub mod Pairing
pub mod Words
