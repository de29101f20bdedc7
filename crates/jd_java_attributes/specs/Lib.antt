pub mod Forms
pub mod Rules
pub mod Headings
pub mod Judging
pub mod Laws
pub mod Folding
pub mod Short
