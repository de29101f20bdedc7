pub mod Held
pub mod Makers
