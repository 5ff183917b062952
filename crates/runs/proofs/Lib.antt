mod Replying
mod Moved
mod Stepping
mod Going
