pub mod Expressions
pub mod Clauses
