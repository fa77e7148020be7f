-- Canonical loops, and what the loop-transforming constructs make of them.
pub mod CanonicalForm
pub mod TripCount
pub mod IterationTrees
pub mod Transformations
pub mod Directives
pub mod Need
pub mod Forest
pub mod Execution
pub mod StatementDepths
