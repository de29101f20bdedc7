pub mod Worked
pub mod Binders
