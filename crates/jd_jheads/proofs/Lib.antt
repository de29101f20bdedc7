mod ClassLists
mod NameSets
mod NewNames
mod NodeCycles
mod Standing
mod Supers
