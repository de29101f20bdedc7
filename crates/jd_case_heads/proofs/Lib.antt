mod Spelled
mod Saying
