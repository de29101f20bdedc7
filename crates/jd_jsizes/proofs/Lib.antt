mod Declaring
mod Spelling
mod Tokens
mod Values
