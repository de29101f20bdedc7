mod Adding
mod Agreeing
mod Deciding
mod Lineages
pub mod Listing
pub mod Written
