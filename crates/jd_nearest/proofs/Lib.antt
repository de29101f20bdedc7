mod Cells
mod Filling
mod Inheriting
mod Sorting
pub mod Standing
