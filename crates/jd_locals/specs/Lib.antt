pub mod Listing
pub mod Scoped
