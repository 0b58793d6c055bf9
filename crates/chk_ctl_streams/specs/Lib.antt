pub mod Lines
pub mod Listing
pub mod Going
pub mod Newest
pub mod Following
pub mod Laws
