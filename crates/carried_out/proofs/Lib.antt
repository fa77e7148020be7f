pub mod SpentNames
pub mod KnownNames
pub mod FromZero
pub mod LoopsAsked
