pub mod Lines
pub mod Rests
pub mod Summing
pub mod Sums
