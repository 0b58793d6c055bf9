pub mod Takings
pub mod Turns
pub mod Runs
pub mod Legality
