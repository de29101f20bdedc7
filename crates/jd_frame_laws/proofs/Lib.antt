mod Closed
mod Frames
