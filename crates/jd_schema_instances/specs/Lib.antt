pub mod Kinds
pub mod Choosing
pub mod Fitting
pub mod Forms
pub mod Made
