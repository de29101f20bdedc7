mod Apart
mod Back
