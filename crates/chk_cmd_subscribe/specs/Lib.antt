pub mod Lines
pub mod Watching
pub mod Runs
pub mod Legality
pub mod Told
pub mod Taking
pub mod Watched
