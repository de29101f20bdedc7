pub mod ByLength
pub mod RunsOfSpecs
