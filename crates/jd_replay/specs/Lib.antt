pub mod FirstBad
pub mod Verdicts
