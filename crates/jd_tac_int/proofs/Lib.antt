pub mod Products
pub mod Order
pub mod Wrapping
pub mod Division
pub mod Sums
pub mod Induction
pub mod Rows
pub mod Finds
