pub mod Numbered
pub mod Numbers
pub mod Parts
pub mod Tables
