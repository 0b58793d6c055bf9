-- The demux run.
pub mod Writes
pub mod Working
pub mod Demuxed
pub mod Beginning
pub mod Damage
pub mod Giving
pub mod Splitting
pub mod Enough
pub mod Entering
pub mod Running
pub mod Shown
pub mod Due
pub mod Laws
