pub mod Plans
pub mod Mail
pub mod Taken
pub mod Replies
