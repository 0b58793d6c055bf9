-- The join of two archives.
pub mod Archives
pub mod Laws
pub mod Names
pub mod Cleaned
pub mod Working
pub mod Runs
pub mod Beginning
pub mod Preparing
pub mod Faults
pub mod Publishing
pub mod Joined
