pub mod Made
pub mod NotNull
