mod Bounds
mod Meanings
mod Named
mod Ranging
mod Sets
mod Told
mod Viewed
