pub mod Made
pub mod Parted
