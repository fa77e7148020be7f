-- The loop rules L1 to L28 of a program, and where a program breaks one.
pub mod BreachSets
pub mod Clauses
pub mod PlacedPlans
pub mod Structure
pub mod Accesses
pub mod Heads
pub mod Counts
pub mod Programs
