pub mod SieveLemmas
pub mod PassingLemmas
pub mod OfferLemmas
pub mod WantedLemmas
pub mod SubscriberLemmas
pub mod SieveLaws
