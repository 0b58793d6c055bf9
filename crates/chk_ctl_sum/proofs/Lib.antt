mod InOrder
pub mod Blocks
pub mod Steps
mod Streams
pub mod LineWords
pub mod Sides
pub mod Later
pub mod Skipped
