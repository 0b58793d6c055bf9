mod Sized
pub mod Records
mod Windows
pub mod RunReads
pub mod Fetching
pub mod Causes
pub mod Frames
pub mod AllGathered
pub mod AllRead
pub mod Joining
pub mod Archived
pub mod SortedStream
pub mod SortedRuns
mod Checked
pub mod OnePass
pub mod SoundHeads
pub mod Writing
pub mod Merged
pub mod MergedInto
pub mod Undamaged
pub mod BothLimits
pub mod HeadStreams
