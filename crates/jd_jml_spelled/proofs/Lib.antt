mod Clauses
mod Pairs
mod Texts
mod Spelling
