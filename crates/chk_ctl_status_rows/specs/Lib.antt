-- What the tables of a status are made of.
pub mod Ends
pub mod Agents
pub mod Sinks
pub mod Lines
