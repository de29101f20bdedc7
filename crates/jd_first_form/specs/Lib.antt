pub mod Conditions
pub mod Forms
pub mod Shapes
pub mod Steps
