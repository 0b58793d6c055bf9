pub mod Newlines
pub mod Takes
pub mod ReadTakes
pub mod OneRead
pub mod WalkLast
