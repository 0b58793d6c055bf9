pub mod Marks
pub mod Readers
pub mod ReaderFields
pub mod PlaceLaws
