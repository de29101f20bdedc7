mod Bits
mod Filling
mod Opening
mod Searching
mod Stacks
mod Ways
