mod Listing
mod Naming
