pub mod Marked
pub mod Histories
pub mod Uses
pub mod Laws
pub mod Commands
pub mod Wholes
