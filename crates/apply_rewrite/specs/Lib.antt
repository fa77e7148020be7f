pub mod NoBreaks
pub mod NoDirectives
pub mod ReverseStacks
pub mod Rewritten
pub mod Laws
