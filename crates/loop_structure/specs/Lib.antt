pub mod Members
pub mod Wanted
