pub mod Chains
pub mod Programs
