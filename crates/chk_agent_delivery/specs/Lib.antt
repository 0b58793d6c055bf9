pub mod States
pub mod Turns
pub mod Sound
pub mod Scripts
pub mod Basis
pub mod Facts
pub mod Fields
pub mod Marks
