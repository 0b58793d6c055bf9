-- Two archives: what both have, what is chosen of them, and its copy.
pub mod Blocks
pub mod Differences
pub mod Comparing
pub mod Reading
pub mod Pairs
pub mod Plans
pub mod Differing
pub mod Choosing
pub mod Copying
pub mod Standing
