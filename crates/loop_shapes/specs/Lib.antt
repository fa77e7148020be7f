pub mod Affected
pub mod Given
pub mod Own
pub mod Seen
pub mod Shape
