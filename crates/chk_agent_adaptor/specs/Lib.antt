pub mod Adaptors
pub mod Steps
pub mod Facts
pub mod Fields
