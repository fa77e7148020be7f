pub mod Renaming
pub mod RenamedRuns
pub mod Numbered
pub mod Numbering
pub mod Resolved
