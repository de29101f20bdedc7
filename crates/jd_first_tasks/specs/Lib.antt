pub mod Laws
pub mod Tasks
