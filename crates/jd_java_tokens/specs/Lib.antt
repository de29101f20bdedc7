pub mod Contents
pub mod Words
pub mod Lexemes
pub mod Unsupported
pub mod Heads
