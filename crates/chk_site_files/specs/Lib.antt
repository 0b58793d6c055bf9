pub mod Folders
pub mod Opened
