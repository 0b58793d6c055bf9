pub mod Addresses
pub mod Doors
pub mod Faults
pub mod Mailbox
pub mod Sends
pub mod Streams
