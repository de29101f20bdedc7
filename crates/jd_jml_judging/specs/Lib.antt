pub mod Contexts
pub mod Named
pub mod Visible
