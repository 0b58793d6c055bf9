pub mod Causes
pub mod Said
