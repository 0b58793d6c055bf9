-- Two archives: what both have, what is chosen of them, and its copy.
mod HeadsInOrder
mod Differences
mod Steps
pub mod OneFetch
mod OneComparison
pub mod AllCompared
mod NextPairs
pub mod BlockBytes
mod PairsCompared
mod Planned
mod Calm
mod Longer
pub mod Lookup
pub mod CopySteps
mod CopiedFetch
mod OneRecord
mod CopiedBlocks
pub mod Segment
mod Standing
