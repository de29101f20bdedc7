mod Expressions
mod Growing
