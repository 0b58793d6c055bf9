mod Seen
mod Behind
pub mod Joined
mod Mapped
mod InTurn
pub mod Owned
