pub mod Foci
