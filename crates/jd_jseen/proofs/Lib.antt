mod Columns
mod Listed
pub mod Nodes
pub mod Routines
mod Seeing
mod Tables
mod Writing
