mod Assembling
pub mod Declaring
mod FewRoutines
mod Listing
pub mod Lists
pub mod Meeting
mod Naming
pub mod Nearest
mod Rooted
mod Walking
