-- What the job reads and writes.
pub mod Gathering
pub mod Cuts
pub mod Records
pub mod Fetching
pub mod Kept
pub mod Slots
pub mod Shelves
pub mod Writes
pub mod Publishing
