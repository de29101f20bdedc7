pub mod Going
pub mod Seeking
