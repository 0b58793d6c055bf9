pub mod Passed
pub mod Printed
pub mod Laws
