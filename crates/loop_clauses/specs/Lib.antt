pub mod Counts
pub mod Items
pub mod Sorts
pub mod Earlier
pub mod Taken
