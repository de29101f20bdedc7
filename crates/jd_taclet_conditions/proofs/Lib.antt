mod Grouped
mod Telling
