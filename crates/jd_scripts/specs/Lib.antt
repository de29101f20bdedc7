pub mod Places
pub mod ReadPlaces
pub mod Scripts
pub mod ProofViews
pub mod Answers
pub mod Machine
pub mod Results
pub mod Laws
