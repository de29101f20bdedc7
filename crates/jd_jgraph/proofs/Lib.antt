mod Called
mod Constructors
mod Counting
mod Joined
mod Lists
mod Methods
pub mod Positions
mod Reaching
mod Routines
mod Whole
