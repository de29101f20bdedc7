pub mod Examples
pub mod NameTables
pub mod Spelling
pub mod Words
