-- What an archive run takes and sets aside.
pub mod Plan
pub mod HeadsOf
pub mod Passes
pub mod Starts
pub mod NextBooks
pub mod Laws
