mod Found
mod Words
mod Named
mod Simple
mod Lines
mod Effects
mod Statements
mod Whole
