pub mod LineWords
pub mod Listed
pub mod Again
pub mod Gone
mod InOrder
mod NewestWanted
