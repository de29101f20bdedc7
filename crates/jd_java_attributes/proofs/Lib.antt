mod Fitting
mod Names
mod Views
mod Settled
mod Levels
