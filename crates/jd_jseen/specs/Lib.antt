pub mod Laws
pub mod Own
pub mod Seen
pub mod Tables
