-- Whether each file of a folder is in its grammar.
pub mod Calls
pub mod Files
pub mod Names
pub mod Telling
pub mod Walks
pub mod Books
pub mod Stores
