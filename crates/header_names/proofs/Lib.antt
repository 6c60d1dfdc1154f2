pub mod FieldFacts
pub mod NameFacts
pub mod NamesFacts
