mod Naming
mod Ranges
