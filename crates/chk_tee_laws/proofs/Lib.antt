pub mod Named
pub mod Reached
pub mod Order
pub mod Appending
pub mod Passing
pub mod Unique
pub mod Printed
