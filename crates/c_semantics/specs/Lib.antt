pub mod Meaning
pub mod Loops
pub mod Structure
pub mod Laws
pub mod Examples
