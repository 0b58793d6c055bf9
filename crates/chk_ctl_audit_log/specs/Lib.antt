-- A log beside its archive.
pub mod Placing
pub mod Summing
pub mod Ahead
pub mod Meeting
pub mod Records
pub mod Streams
