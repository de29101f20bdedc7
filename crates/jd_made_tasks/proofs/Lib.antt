mod Form
mod Found
mod Past
mod Tables
mod Whole
