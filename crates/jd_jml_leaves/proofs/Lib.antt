pub mod Printed
mod Same
