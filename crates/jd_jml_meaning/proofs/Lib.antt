pub mod Spelled
pub mod Located
pub mod StableHolds
pub mod InvariantsHold
pub mod ContractWorlds
pub mod ContractsMean
pub mod CasesKept
pub mod Scopes
