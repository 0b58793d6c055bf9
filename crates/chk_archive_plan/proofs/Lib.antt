pub mod Reaching
pub mod ChunkOrder
pub mod Parts
pub mod Runs
pub mod Gaps
pub mod BooksMay
pub mod SetAside
pub mod HeadOrder
pub mod Blocks
pub mod Bridges
pub mod SpanBlocks
pub mod KnownSearch
pub mod OneStart
mod MoreSpans
pub mod Gives
