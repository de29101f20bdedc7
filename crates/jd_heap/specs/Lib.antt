pub mod Codings
pub mod References
pub mod ReferenceCodings
pub mod SparseMaps
pub mod Heaps
pub mod Allocation
pub mod Values
pub mod HeapLaws
