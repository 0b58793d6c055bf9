pub mod Inspections
pub mod Lends
pub mod Steps
pub mod Causes
