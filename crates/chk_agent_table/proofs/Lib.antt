pub mod Places
pub mod Tables
pub mod Writes
pub mod Finding
pub mod Forgetting
