mod Linking
mod Numbers
mod Tops
mod Tying
mod Uniqueness
