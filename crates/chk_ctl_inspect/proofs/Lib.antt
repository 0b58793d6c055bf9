pub mod Told
pub mod Keeping
pub mod Parts
pub mod Runs
