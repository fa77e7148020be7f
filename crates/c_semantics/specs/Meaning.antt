-- What expressions, statements and programs do.
pub mod State
pub mod Expressions
pub mod Runs
pub mod SimpleStatements
pub mod Statements
pub mod Programs
pub mod FileVariables
