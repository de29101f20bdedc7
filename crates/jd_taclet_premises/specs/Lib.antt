pub mod Premises
pub mod Views
pub mod Having
