pub mod Encoding
pub mod Numbered
pub mod Texts
