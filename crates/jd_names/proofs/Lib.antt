pub mod ClassNames
pub mod Firsts
mod Known
pub mod Letters
pub mod Members
pub mod Seeing
pub mod Sighting
mod Telling
