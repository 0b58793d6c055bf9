pub mod Faults
pub mod Exchanges
pub mod Least
pub mod Legality
pub mod OwnRows
