pub mod Calls
pub mod Premises
pub mod UseContract
pub mod NewObject
pub mod Laws
pub mod RecursiveCall
pub mod WrittenAllocations
