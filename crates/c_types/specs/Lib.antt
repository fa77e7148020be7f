pub mod Answers
pub mod Lookup
pub mod Noted
pub mod Visible
