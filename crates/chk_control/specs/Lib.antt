pub mod Classes
pub mod LineWords
pub mod Lines
pub mod Answers
pub mod Spellings
