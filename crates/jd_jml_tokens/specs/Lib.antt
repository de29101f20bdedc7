pub mod Words
pub mod Lexemes
