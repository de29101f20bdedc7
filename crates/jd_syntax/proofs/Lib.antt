pub mod CodeLemmas
pub mod Lists
pub mod NameTests
pub mod SortedNames
pub mod SxLemmas
