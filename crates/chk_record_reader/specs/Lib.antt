-- Records that are read back, and the merging of segments.
pub mod Spans
pub mod ReadBack
pub mod Segments
pub mod Streams
pub mod Courses
pub mod Archives
pub mod Checking
pub mod Gone
pub mod OnePass
pub mod Merging
pub mod Laws
