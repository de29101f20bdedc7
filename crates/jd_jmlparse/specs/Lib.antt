pub mod Places
pub mod Parses
pub mod OneAnswer
pub mod Filled
pub mod Filling
pub mod OneFilling
