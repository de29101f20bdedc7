pub mod Bytes
pub mod Tokens
pub mod Texts
pub mod TokenViews
pub mod Trees
pub mod Readings
pub mod ReadingViews
pub mod Answers
