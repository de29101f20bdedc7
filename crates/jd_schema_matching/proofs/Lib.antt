pub mod Agreeing
pub mod Binding
