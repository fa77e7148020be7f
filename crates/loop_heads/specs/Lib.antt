pub mod Affected
pub mod Assigning
pub mod Calling
pub mod Constructs
pub mod Reading
pub mod Touching
