pub mod Oldest
pub mod Judging
pub mod Passing
pub mod Laws
pub mod Agents
