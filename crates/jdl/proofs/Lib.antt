pub mod Completeness
pub mod Replay
pub mod KeptPrograms
pub mod Outcomes
