pub mod Sending
pub mod Passing
pub mod Sieves
pub mod Offers
pub mod Subscribers
