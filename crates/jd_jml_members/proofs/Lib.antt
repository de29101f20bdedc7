mod Growing
mod Taken
