mod Blocks
mod Sizes
mod Staying
mod Told
mod Views
mod Wholes
