-- The heads of records, and how a key is written over the last one.
pub mod Faults
pub mod Pieces
pub mod Shown
pub mod Heads
pub mod HeadRows
pub mod Recents
pub mod Order
pub mod Feeding
pub mod Gathered
pub mod ShownHeads
pub mod Causes
pub mod Laws
pub mod LastKeys
pub mod Telling
pub mod Passing
