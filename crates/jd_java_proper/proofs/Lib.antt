mod Told
mod Headings
mod Rules
mod Roles
mod Table
mod Trees
mod Reading
