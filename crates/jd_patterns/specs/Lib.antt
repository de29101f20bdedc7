pub mod Patterns
pub mod Instances
pub mod Foci
pub mod Bindings
pub mod Matching
pub mod Finds
pub mod Variables
pub mod Chosen
