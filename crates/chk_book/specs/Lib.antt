-- Books and segments.
pub mod Folders
pub mod Damage
pub mod Views
pub mod Reading
pub mod Found
pub mod Books
pub mod Loaded
pub mod Segmenting
pub mod Raising
pub mod Recent
pub mod Storing
pub mod Written
pub mod Adding
pub mod Causes
pub mod Laws
pub mod Publishing
pub mod SegmentNames
