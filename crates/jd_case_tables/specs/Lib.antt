pub mod Fielded
pub mod Large
pub mod Numbered
pub mod Placed
pub mod Running
pub mod Spelled
pub mod Worlds
