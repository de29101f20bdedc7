mod Apart
mod Inherited
mod Lines
mod Renaming
mod Tables
