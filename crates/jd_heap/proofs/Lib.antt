pub mod Entries
pub mod Fresh
pub mod HeapLaws
