pub mod Alike
pub mod Typed
pub mod Tight
pub mod Standing
