pub mod Components
pub mod Laws
pub mod Numberings
pub mod Roots
