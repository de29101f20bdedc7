pub mod Values
pub mod Heads
pub mod Parts
pub mod Views
