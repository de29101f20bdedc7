pub mod TermNames
pub mod Focus
pub mod Laws
