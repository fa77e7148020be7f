pub mod Outlines
pub mod Directives
pub mod Forms
pub mod Heights
pub mod NoBreaks
pub mod Names
