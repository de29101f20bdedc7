pub mod Scopes
pub mod Types
pub mod Clauses
pub mod Refused
pub mod Resolution
pub mod WrittenCases
pub mod Examples
pub mod Laws
