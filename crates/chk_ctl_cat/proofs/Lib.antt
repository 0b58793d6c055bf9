pub mod CourseLemmas
pub mod FedCourses
pub mod Texts
pub mod Seeing
pub mod SegmentLemmas
pub mod ArchiveLemmas
pub mod Wanted
pub mod StreamLemmas
pub mod Loads
mod NextKey
