-- A log beside its archive.
pub mod Gave
mod Loop
pub mod Owned
pub mod Placed
mod Logs
pub mod Causes
mod Blocks
