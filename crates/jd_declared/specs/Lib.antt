pub mod Named
pub mod Owned
pub mod Told
pub mod Walks
