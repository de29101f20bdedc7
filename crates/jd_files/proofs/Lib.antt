pub mod ClassRefusals
pub mod OneRefusal
pub mod Sizes
pub mod Trees
