-- The name rules N1 to N12 of a program, and where a program breaks one.
pub mod Scopes
pub mod DeclaredNames
pub mod CallDepth
pub mod Breaches
pub mod Programs
pub mod BreachSets
