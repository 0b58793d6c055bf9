pub mod Calls
pub mod Legality
pub mod Messages
pub mod Runs
pub mod Turns
