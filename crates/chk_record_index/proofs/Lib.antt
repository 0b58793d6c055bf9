-- The heads of records, and how a key is written over the last one.
pub mod Orders
pub mod Sorting
mod Ranks
pub mod Turning
pub mod Showing
pub mod PieceReads
pub mod Places
pub mod Rows
pub mod Records
pub mod KeptKeys
pub mod FedRecords
mod Passing
pub mod Gathering
pub mod WholeReads
pub mod NoDamage
pub mod Stretches
pub mod Causes
pub mod InTurn
pub mod Apart
pub mod LastKeys
pub mod PassedTails
