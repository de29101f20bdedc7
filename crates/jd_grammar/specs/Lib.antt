pub mod Grammars
pub mod Folds
pub mod Tables
pub mod Tests
pub mod Readings
pub mod Moves
pub mod Nodes
pub mod Counted
