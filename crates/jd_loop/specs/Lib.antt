pub mod LoopNames
pub mod LoopPremises
pub mod LoopInstances
pub mod LoopLaws
pub mod CountingMethod
pub mod CountingLoop
pub mod NewNameInForm
