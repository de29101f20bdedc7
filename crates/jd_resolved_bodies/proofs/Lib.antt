pub mod Parts
mod Expressions
mod Jumps
mod Targets
mod Effects
mod Exits
mod Statements
