pub mod Metrics
pub mod Families
pub mod Agents
