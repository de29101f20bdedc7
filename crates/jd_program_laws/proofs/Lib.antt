pub mod Lists
pub mod Lineages
pub mod Members
pub mod Cases
pub mod Families
pub mod Calls
pub mod Bodies
pub mod Constants
pub mod Kept
pub mod OneFamilies
pub mod ClassTables
pub mod TaskClasses
mod Meaning
