pub mod Laws
pub mod TaskClasses
