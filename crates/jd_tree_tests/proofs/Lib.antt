pub mod PlainTests
pub mod TreeTests
pub mod AllTests
