pub mod Refuting
pub mod Soundness
pub mod Places
pub mod TermPlaces
pub mod PutTerms
