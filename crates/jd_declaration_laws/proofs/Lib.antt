mod Members
pub mod One
