mod Told
mod Rules
mod Sums
mod Roles
mod Table
mod Faultless
mod Trees
