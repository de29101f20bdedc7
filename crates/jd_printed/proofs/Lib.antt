pub mod Bytes
pub mod Shown
pub mod Lines
pub mod Readback
