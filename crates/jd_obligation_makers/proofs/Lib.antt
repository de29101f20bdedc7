mod Turns
mod Beginnings
