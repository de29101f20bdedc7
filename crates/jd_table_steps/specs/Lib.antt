pub mod Tables
pub mod Usable
pub mod Laws
