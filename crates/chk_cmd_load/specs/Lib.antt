pub mod Ends
pub mod Lines
pub mod Processes
pub mod Pieces
pub mod Archived
pub mod Loads
