pub mod Shapes
pub mod Near
mod Levels
mod Sums
mod Table
mod Again
mod Trees
