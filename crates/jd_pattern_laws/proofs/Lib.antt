pub mod Meets
pub mod Exact
pub mod Made
pub mod Keeping
pub mod Binding
pub mod Chosen
pub mod Filling
pub mod AllLaws
