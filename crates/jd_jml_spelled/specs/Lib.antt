pub mod Comments
pub mod Clauses
