pub mod Lines
pub mod Lists
pub mod Notices
pub mod Troubles
