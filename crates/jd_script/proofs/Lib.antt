pub mod Numbers
pub mod NameSets
pub mod Children
pub mod Between
pub mod Turns
