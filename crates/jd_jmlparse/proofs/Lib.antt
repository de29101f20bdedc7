mod Tokens
mod Deriving
mod Judging
mod Answering
mod Bare
mod Blocks
mod Filled
mod Fillings
pub mod Going
mod Loops
mod Refilling
mod Statements
