mod Values
mod Expressions
mod Clauses
mod Tokens
mod Trees
