pub mod Reversed
pub mod Laws
