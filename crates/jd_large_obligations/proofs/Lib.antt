mod Large
mod Levels
mod Parts
