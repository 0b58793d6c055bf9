pub mod Generations
pub mod Holdings
pub mod Logs
pub mod Passed
pub mod Waits
