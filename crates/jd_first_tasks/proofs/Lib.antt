pub mod Alike
pub mod Moved
pub mod Shape
pub mod OnlyCase
pub mod Rows
pub mod Unrefused
pub mod Kept
