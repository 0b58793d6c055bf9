pub mod Messages
pub mod Faults
pub mod Lent
pub mod Fields
pub mod TeeFields
pub mod Filters
pub mod FilterFaults
pub mod Laws
