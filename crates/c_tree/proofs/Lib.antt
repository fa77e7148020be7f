pub mod Defines
pub mod Forgotten
pub mod Heads
pub mod Heights
pub mod Places
pub mod Walks
