pub mod Elsewhere
pub mod Finding
pub mod Groups
pub mod Lines
pub mod Order
pub mod Stores
pub mod Streams
pub mod Views
