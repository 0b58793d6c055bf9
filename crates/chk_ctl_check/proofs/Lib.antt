mod FindingLines
pub mod OwnCalls
pub mod SilentLines
mod Split
