mod Answering
mod Deriving
mod Judging
mod Tokens
