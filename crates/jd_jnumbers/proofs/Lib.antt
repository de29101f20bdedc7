mod Encodings
mod Numberings
mod TextSets
