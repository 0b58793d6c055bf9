pub mod Printing
pub mod Lines
pub mod Steps
