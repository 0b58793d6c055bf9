-- The peers of a listening address.
pub mod Stages
pub mod Callers
pub mod Held
pub mod Moments
