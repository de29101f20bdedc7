mod Answered
mod Giving
mod Once
