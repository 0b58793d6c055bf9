pub mod Lines
pub mod Fields
pub mod Seen
pub mod Damage
pub mod Faults
pub mod Loads
