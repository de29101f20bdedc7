mod Literals
mod Naming
mod Owned
