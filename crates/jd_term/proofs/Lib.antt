pub mod Capping
pub mod Depths
pub mod Leafwise
pub mod Mapped
pub mod Related
