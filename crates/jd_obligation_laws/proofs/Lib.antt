mod Fitting
mod Judging
mod KnownTypes
mod Making
mod Sorts
