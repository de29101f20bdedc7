pub mod Methods
pub mod ResolvedCalls
pub mod Classes
pub mod Standing
pub mod OneClass
