pub mod Loops
pub mod Marked
pub mod Parts
pub mod Said
pub mod Views
