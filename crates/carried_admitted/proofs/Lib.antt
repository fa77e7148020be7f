pub mod Reversals
pub mod Visible
pub mod Heads
pub mod Walk
pub mod Programs
