pub mod Ancestors
pub mod Depths
pub mod Laws
pub mod Walks
