pub mod Free
pub mod Stores
pub mod Telling
pub mod Absent
pub mod Lags
pub mod Locks
pub mod Doors
