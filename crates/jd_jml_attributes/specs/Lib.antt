pub mod Forms
pub mod Rules
pub mod Judging
pub mod Laws
pub mod Short
