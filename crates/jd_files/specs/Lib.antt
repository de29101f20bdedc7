pub mod Files
pub mod Laws
pub mod Readings
pub mod Refusals
