mod Contracts
mod Large
mod Spellings
mod Unions
