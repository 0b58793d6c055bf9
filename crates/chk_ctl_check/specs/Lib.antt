pub mod Troubles
pub mod Beside
pub mod Judging
pub mod Logs
pub mod Lines
pub mod Looking
pub mod Collectors
pub mod Checking
