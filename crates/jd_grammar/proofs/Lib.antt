pub mod Masks
pub mod Sets
pub mod Forests
pub mod Folds
pub mod Witnesses
pub mod Orders
pub mod Steps
pub mod Slices
pub mod Stacks
pub mod Readers
pub mod Walks
mod Counting
pub mod Walking
pub mod Runs
