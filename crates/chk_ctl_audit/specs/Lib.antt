pub mod Finding
pub mod Lines
pub mod Streams
pub mod Audits
