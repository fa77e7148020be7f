pub mod Accesses
pub mod AlikeFunctions
pub mod Heights
pub mod Parameters
pub mod Programs
pub mod Tiers
pub mod Visibility
pub mod Walks
