pub mod Values
pub mod Runs
pub mod Programs
pub mod Lists
pub mod Numbers
