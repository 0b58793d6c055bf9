pub mod Lines
pub mod RunStays
pub mod TrueLines
pub mod CallKinds
pub mod Told
