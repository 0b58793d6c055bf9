pub mod SeenLemmas
pub mod ListLemmas
pub mod WrittenLemmas
pub mod LineLemmas
pub mod Fronts
pub mod SoFar
pub mod LoadLemmas
