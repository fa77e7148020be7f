-- Worked examples of what programs do.
pub mod Notation
pub mod OneLoop
pub mod SeveralLoops
pub mod ApplyClause
pub mod Statements
pub mod Functions
pub mod Depths
pub mod FileVariables
