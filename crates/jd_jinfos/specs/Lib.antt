pub mod Infos
pub mod Stages
pub mod Views
