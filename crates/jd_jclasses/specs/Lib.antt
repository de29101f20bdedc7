pub mod CallGraph
pub mod Classes
pub mod Examples
pub mod Laws
pub mod Members
pub mod Methods
pub mod Numbers
pub mod Refusals
