pub mod Lexical
pub mod Laws
