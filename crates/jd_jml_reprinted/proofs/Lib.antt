mod Alone
mod Words
mod Leaves
mod Whole
mod Back
