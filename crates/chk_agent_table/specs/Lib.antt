pub mod Adaptors
pub mod Fields
pub mod Hashing
