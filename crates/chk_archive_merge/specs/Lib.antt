-- Segments that are gone through side by side.
pub mod Cursors
pub mod Tours
pub mod Sides
pub mod Merges
