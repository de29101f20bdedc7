mod Growing
mod Expressions
mod Statements
mod Ordinary
