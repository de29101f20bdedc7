mod OneRefusal
mod FirstTold
