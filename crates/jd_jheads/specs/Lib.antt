pub mod Firsts
pub mod Heads
pub mod Names
pub mod Placed
