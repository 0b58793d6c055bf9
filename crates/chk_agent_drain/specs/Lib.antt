pub mod Drains
pub mod Parts
pub mod Whole
