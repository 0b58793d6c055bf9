pub mod MarkLemmas
pub mod Fields
pub mod Walking
pub mod Places
