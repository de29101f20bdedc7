pub mod Plain
pub mod Puts
pub mod LogicRows
pub mod IntegerRows
pub mod Conditions
pub mod Steps
