pub mod Building
pub mod First
