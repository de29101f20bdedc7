pub mod Members
pub mod Cases
pub mod Programs
pub mod Examples
