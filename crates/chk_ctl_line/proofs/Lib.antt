pub mod OptionLemmas
pub mod StatusLemmas
mod WordLists
