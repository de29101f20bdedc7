mod Counting
mod Laws
mod Refusing
