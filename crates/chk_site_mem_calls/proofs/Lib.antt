pub mod MessageLemmas
pub mod GotLemmas
pub mod PlanLemmas
pub mod TakeLemmas
