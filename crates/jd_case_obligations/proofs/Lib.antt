mod ClassNames
mod Exits
mod Turns
