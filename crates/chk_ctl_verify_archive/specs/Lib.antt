-- Whether a folder is as it has to be.
pub mod Verifying
