mod Apart
mod Changes
mod Told
