mod Steps
mod Said
mod Causes
mod Seen
mod Turns
mod Lines
pub mod FolderWords
