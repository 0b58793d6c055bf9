-- The heads of what is new in an archive.
pub mod Backward
pub mod Forward
pub mod Looking
pub mod Newest
