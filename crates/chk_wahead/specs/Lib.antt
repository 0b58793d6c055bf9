pub mod Names
pub mod Faults
pub mod States
pub mod Scripts
pub mod Fields
pub mod Starting
pub mod Telling
pub mod Legality
