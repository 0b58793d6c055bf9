pub mod LineLemmas
pub mod SplitLemmas
pub mod Stepping
pub mod FeedLemmas
pub mod RecordLemmas
