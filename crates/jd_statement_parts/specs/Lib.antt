pub mod Catching
pub mod Leaving
pub mod Standing
pub mod Turning
