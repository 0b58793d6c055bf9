mod StoreSteps
pub mod Shown
pub mod Found
mod Held
mod Passed
mod Checked
mod Audited
