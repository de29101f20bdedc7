pub mod Spelled
pub mod Surroundings
pub mod Places
pub mod Laws
