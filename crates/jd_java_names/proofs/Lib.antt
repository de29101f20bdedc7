pub mod Every
mod Named
mod Shapes
mod Table
mod Trees
pub mod Words
pub mod Tokens
mod Filled
mod Declared
