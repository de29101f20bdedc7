mod Fields
mod Places
mod Resolving
