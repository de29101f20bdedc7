pub mod Identifiers
pub mod Laws
pub mod Tables
pub mod Words
