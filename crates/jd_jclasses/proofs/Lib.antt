mod Numbers
mod Refusals
mod Seen
mod Worked
