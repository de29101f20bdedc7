pub mod Tested
pub mod Foci
pub mod PartViews
pub mod Bound
