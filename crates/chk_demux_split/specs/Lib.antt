pub mod Splitting
pub mod LineFronts
pub mod SplitterFields
pub mod Laws
