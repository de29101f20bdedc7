mod Classes
mod Listing
mod More
mod Nearest
mod Orders
mod Tying
