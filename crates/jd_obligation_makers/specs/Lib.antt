pub mod Exits
pub mod Frames
pub mod Parts
pub mod Starts
