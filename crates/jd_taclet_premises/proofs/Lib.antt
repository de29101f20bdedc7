pub mod Instead
pub mod Made
pub mod Standing
