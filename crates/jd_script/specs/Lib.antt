pub mod ProofViews
pub mod PartViews
pub mod TurnViews
pub mod StageViews
pub mod Answers
