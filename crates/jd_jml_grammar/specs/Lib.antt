pub mod Productions
pub mod Jml
pub mod Sets
