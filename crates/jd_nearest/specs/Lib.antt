pub mod Laws
pub mod Nearest
pub mod Orders
pub mod Rows
