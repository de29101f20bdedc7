pub mod TermNames
pub mod Formulas
pub mod Parameters
pub mod Scopes
pub mod Clauses
pub mod Cases
pub mod Unrefused
pub mod Sequents
mod Whole
