pub mod Replacements
pub mod NameOrder
pub mod OrderedPairs
pub mod KeptPairs
pub mod Pushed
pub mod Sorted
pub mod AllLaws
pub mod PushedExamples
