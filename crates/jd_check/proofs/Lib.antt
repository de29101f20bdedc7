mod Gathering
mod Refusing
pub mod Walking
