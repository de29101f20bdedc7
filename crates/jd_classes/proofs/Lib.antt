mod Counting
mod FewFamilies
mod FieldLists
mod Gathering
mod Lineages
mod Looking
pub mod NoCycle
mod Refusing
