pub mod Counting
pub mod Viewed
pub mod Counts
pub mod Whole
