pub mod Streams
pub mod Begins
pub mod Drains
pub mod Done
pub mod Parts
