pub mod Disagreements
pub mod Items
pub mod Orders
pub mod Places
pub mod Tallies
