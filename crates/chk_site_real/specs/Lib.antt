pub mod Locks
pub mod Requests
