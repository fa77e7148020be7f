pub mod Answer
pub mod Lines
pub mod Status
pub mod Told
pub mod Words
pub mod Commands
