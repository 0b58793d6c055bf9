-- What the tables of a status are made of.
pub mod Own
pub mod Causes
pub mod Turns
pub mod Parts
pub mod Finds
pub mod SinksOwn
pub mod Texts
