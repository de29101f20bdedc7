mod Lists
mod Splitting
mod Told
pub mod Views
