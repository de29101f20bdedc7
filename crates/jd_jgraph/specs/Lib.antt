pub mod Callees
pub mod Edges
pub mod Named
pub mod Tables
