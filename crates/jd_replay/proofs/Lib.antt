pub mod Going
pub mod Refused
pub mod Turns
pub mod Closed
pub mod OneFirstBad
