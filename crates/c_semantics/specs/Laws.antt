-- Laws of runs.
pub mod Bounds
pub mod Names
pub mod Apart
pub mod LeastNeed
