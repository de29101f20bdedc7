pub mod Names
pub mod Rows
pub mod Rewrites
pub mod Instances
pub mod SoundSteps
pub mod SortedSteps
