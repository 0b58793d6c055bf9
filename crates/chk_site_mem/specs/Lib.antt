pub mod Begun
pub mod Lossless
pub mod Memory
pub mod Printed
