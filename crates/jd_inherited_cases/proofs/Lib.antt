pub mod Lineages
pub mod Inherited
