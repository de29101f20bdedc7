mod Ancestry
mod DepthLaws
mod Marks
mod Numbers
mod Steps
