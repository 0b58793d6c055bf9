pub mod CallSteps
pub mod OldAndNew
pub mod Unmade
pub mod Pieces
