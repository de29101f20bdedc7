pub mod Graphs
pub mod Paths
pub mod Rows
pub mod Searches
pub mod States
