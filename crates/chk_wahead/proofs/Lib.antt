pub mod Joining
pub mod Fields
pub mod Starts
pub mod Obeying
pub mod Staying
