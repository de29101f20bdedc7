pub mod Types
pub mod Parameters
pub mod Accepted
pub mod Standing
mod ListedCases
mod ListedInvariants
mod ListedBodies
mod ListedFields
mod ListedTables
