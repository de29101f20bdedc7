pub mod Applying
pub mod Chains
pub mod Instead
pub mod Refusals
pub mod Rewritings
pub mod Within
