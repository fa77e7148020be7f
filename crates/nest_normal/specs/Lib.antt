pub mod Spelled
pub mod NestTexts
pub mod OuterVariables
pub mod NestDenotes
pub mod KnownCounts
pub mod Laws
pub mod Outlines
