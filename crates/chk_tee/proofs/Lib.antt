pub mod WrongLemmas
pub mod Near
pub mod FieldLemmas
pub mod MessageGrammar
pub mod MessageWriting
pub mod PassingLemmas
pub mod Requests
pub mod FilterLemmas
