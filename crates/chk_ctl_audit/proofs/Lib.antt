mod LineWords
pub mod Owned
mod Steps
