pub mod Unplaced
pub mod Places
