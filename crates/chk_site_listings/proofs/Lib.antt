pub mod Fronts
mod Ordered
pub mod Rooms
pub mod Stamping
pub mod Takes
