pub mod Causes
pub mod Preorder
pub mod Scripts
pub mod Small
pub mod Freshness
pub mod RulesBelowUpdates
pub mod SoundDerivations
pub mod TaskNames
