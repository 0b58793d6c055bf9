pub mod Commands
pub mod Running
pub mod Sights
pub mod Folders
pub mod Reporting
pub mod Statuses
pub mod Inspections
