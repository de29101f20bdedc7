pub mod Clashes
pub mod Firsts
pub mod Items
pub mod Repeats
