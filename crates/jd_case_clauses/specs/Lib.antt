pub mod Frames
pub mod Said
pub mod Scopes
pub mod Signals
pub mod Spelled
pub mod Whole
