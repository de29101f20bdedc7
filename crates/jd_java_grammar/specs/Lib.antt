pub mod Productions
pub mod Java
pub mod Sets
