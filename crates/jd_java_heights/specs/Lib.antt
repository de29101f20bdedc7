pub mod Heights
pub mod Told
pub mod ReadHeights
