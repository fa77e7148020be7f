pub mod NameBreaches
pub mod NeverStuck
pub mod Unplaced
