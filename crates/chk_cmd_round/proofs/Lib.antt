pub mod Lines
pub mod Joined
pub mod Prints
pub mod Unclosed
pub mod Runs
