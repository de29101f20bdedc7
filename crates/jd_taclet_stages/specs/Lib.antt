pub mod Steadiness
pub mod Conditions
pub mod Stages
pub mod Ready
pub mod Laws
