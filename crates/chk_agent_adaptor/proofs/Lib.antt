pub mod Named
pub mod Fields
pub mod WalkFacts
pub mod Texts
pub mod Unshort
pub mod WalkTold
pub mod Told
