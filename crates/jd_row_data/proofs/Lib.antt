mod Forms
pub mod Additions
